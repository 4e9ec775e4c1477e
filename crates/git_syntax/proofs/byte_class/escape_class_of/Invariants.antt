-- A text is as sound as the text after its escapes, and decodes to ASCII if that does and they do.
use Rattle.std.proofs.Common.{◌≡◌, length, true}
use Rattle.git_syntax.specs.Escapes.{is_sound}
use Rattle.git_syntax.specs.Internal.ByteClasses.{has_high_escape}
use Rattle.git_syntax.proofs.byte_class.escape_class_of.Given as goal

abbrev pub invariant-loop-suffix : goal.invariant-loop-suffix
invariant-loop-suffix l = record {
  sound : is_sound l.rest ≡ is_sound l.text;
  high : l.ascii ≡ true → has_high_escape l.rest ≡ has_high_escape l.text;
}

abbrev pub decreases-loop-suffix : goal.decreases-loop-suffix
decreases-loop-suffix l = length l.rest

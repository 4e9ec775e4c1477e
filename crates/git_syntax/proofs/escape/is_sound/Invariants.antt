-- A text is as sound as the text after its escapes.
use Rattle.std.proofs.Common.{◌≡◌, length}
use Rattle.git_syntax.specs.Escapes.{is_sound}
use Rattle.git_syntax.proofs.escape.is_sound.Given as goal

abbrev pub invariant-loop-suffix : goal.invariant-loop-suffix
invariant-loop-suffix l = is_sound l.rest ≡ is_sound l.text

abbrev pub decreases-loop-suffix : goal.decreases-loop-suffix
decreases-loop-suffix l = length l.rest

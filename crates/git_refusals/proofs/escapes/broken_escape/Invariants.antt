-- The rest is unsound, and its first broken escape is that of the text, further on.
use Rattle.std.proofs.Common.{◌≡◌, ◌≤◌, ◌+◌, ℕ, false, length}
use Rattle.git_syntax.specs.Escapes.{is_sound}
use Rattle.git_refusals.specs.Characters.{IsBrokenAt}
use Rattle.git_refusals.proofs.escapes.broken_escape.Given as goal

abbrev pub invariant-loop-suffix : goal.invariant-loop-suffix
invariant-loop-suffix l = record {
  unsound : is_sound l.rest ≡ false;
  further : (at place : ℕ) → IsBrokenAt l.rest at → place + length l.rest ≡ at + length l.bytes → IsBrokenAt l.bytes place;
  within : length l.rest ≤ length l.bytes;
}

abbrev pub decreases-loop-suffix : goal.decreases-loop-suffix
decreases-loop-suffix l = length l.rest

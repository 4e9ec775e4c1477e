-- The text written so far is the normal form of the text before the rest.
use Rattle.std.proofs.Common.{◌≡◌, ◌≤◌, ◌+◌, ◌*◌, ◌++◌, true, length, take}
use Rattle.git_syntax.specs.Escapes.{is_sound}
use Rattle.git_rules.specs.Normal.{normal_text}
use Rattle.git_rules.proofs.normal.escapes.write_normal.Given as goal

abbrev pub invariant-loop-byte : goal.invariant-loop-byte
invariant-loop-byte l = record {
  joined : take l.at l.buffer ++ normal_text l.rest ≡ take l.start l.fn.buffer ++ normal_text l.text;
  sound : is_sound l.rest ≡ true;
  least : l.start ≤ l.at;
  left : l.at + 3 * length l.rest ≤ l.start + 3 * length l.text;
  kept : length l.buffer ≡ length l.fn.buffer;
}

abbrev pub decreases-loop-byte : goal.decreases-loop-byte
decreases-loop-byte l = length l.rest

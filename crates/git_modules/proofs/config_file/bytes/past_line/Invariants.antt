-- The text after the line stays the same on the way to its end.
use Rattle.std.proofs.Common.{◌≡◌, ◌≤◌, ◌-◌, length}
use Rattle.git_modules.specs.ConfigFileBytes.{left_at, past_line}
use Rattle.git_modules.proofs.config_file.bytes.past_line.Given as goal

abbrev pub invariant-loop-byte : goal.invariant-loop-byte
invariant-loop-byte l = record {
  left : past_line (left_at l.text l.at) ≡ past_line (left_at l.text l.start);
  least : l.start ≤ l.at;
  most : l.at ≤ length l.text;
}

abbrev pub decreases-loop-byte : goal.decreases-loop-byte
decreases-loop-byte l = length l.text - l.at

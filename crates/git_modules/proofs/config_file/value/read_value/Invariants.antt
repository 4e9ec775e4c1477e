-- The bytes written so far and the rest of the value are the whole value.
use Rattle.std.proofs.Common.{◌≡◌, ◌≤◌, ◌+◌, ◌-◌, length}
use Rattle.git_modules.specs.ConfigFileBytes.{left_at}
use Rattle.git_modules.specs.ConfigFileValues.{value_of}
use Rattle.git_modules.specs.ConfigFileValuePieces.{HasTail, value_on}
use Rattle.git_modules.proofs.config_file.value.read_value.Given as goal

abbrev pub invariant-loop-byte : goal.invariant-loop-byte
invariant-loop-byte l = record {
  value : value_of (left_at l.text l.start) ≡ value_on l.buffer l.written (left_at l.text l.at);
  tail : HasTail l.buffer l.written;
  most : l.at ≤ length l.text;
  size : l.written.end + l.start ≤ l.at;
  kept : length l.buffer ≡ length l.fn.buffer;
}

abbrev pub decreases-loop-byte : goal.decreases-loop-byte
decreases-loop-byte l = length l.text - l.at

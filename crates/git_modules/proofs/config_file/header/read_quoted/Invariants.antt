-- The bytes written so far and the rest of the subsection are the whole subsection.
use Rattle.std.proofs.Common.{◌≡◌, ◌≤◌, ◌+◌, ◌-◌, false, length, take}
use Rattle.git_modules.specs.ConfigFileBytes.{left_at}
use Rattle.git_modules.specs.ConfigFileFlaws.{prefixed}
use Rattle.git_modules.specs.ConfigFileHeaders.{quoted_text}
use Rattle.git_modules.proofs.config_file.header.read_quoted.Given as goal

abbrev pub invariant-loop-byte : goal.invariant-loop-byte
invariant-loop-byte l = record {
  bytes : prefixed (take l.front l.fn.buffer) (quoted_text false (left_at l.text l.start)) ≡ prefixed (take l.len l.buffer) (quoted_text l.is_escaped (left_at l.text l.at));
  least : l.start ≤ l.at;
  most : l.at ≤ length l.text;
  size : l.len + l.start ≤ l.front + l.at;
  kept : length l.buffer ≡ length l.fn.buffer;
}

abbrev pub decreases-loop-byte : goal.decreases-loop-byte
decreases-loop-byte l = length l.text - l.at

-- The buffer begins with the text that is written for the bytes so far, and is long enough for the rest.
use Rattle.std.proofs.Common.{◌≡◌, ◌*◌, ◌≤◌, take}
use Rattle.percent_encoding.specs.Percent.{percent_encode}
use Rattle.git_location.proofs.writer.escaped.escape_block.Given as goal

abbrev pub invariant-loop-byte : goal.invariant-loop-byte
invariant-loop-byte l = record {
  bytes : take l.size l.buffer ≡ percent_encode l.set (take l.byte-index l.block);
  bound : l.size ≤ 3 * l.byte-index;
}

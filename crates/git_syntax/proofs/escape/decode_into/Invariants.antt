-- The bytes decoded so far are in the front of the buffer.
use Rattle.std.proofs.Common.{◌≡◌, ◌++◌, ◌+◌, length, take}
use Rattle.percent_encoding.specs.Percent.{percent_decode}
use Rattle.git_syntax.proofs.escape.decode_into.Given as goal

abbrev pub invariant-loop-byte : goal.invariant-loop-byte
invariant-loop-byte l = record {
  size : l.size + length (percent_decode l.rest) ≡ length (percent_decode l.text);
  bytes : percent_decode l.text ≡ take l.size l.buffer ++ percent_decode l.rest;
  kept : length l.buffer ≡ length l.fn.buffer;
}

abbrev pub decreases-loop-byte : goal.decreases-loop-byte
decreases-loop-byte l = length (percent_decode l.rest)

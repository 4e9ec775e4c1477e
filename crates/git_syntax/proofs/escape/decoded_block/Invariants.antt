-- The block begins with the bytes so far, and zeros follow.
use Rattle.std.proofs.Common.{◌≡◌, ◌-◌, ◌++◌, drop, length, replicate, take}
use Rattle.percent_encoding.specs.Percent.{percent_decode}
use Rattle.git_syntax.proofs.escape.decoded_block.Given as goal

abbrev pub invariant-loop-at : goal.invariant-loop-at
invariant-loop-at l = record {
  bytes : percent_decode l.text ≡ take l.at l.block ++ percent_decode l.rest;
  buffer : length l.block ≡ 64;
  zeros : drop l.at l.block ≡ replicate (64 - l.at) 0;
}

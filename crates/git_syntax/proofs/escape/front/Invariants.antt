-- The front of the window holds the bytes so far.
use Rattle.std.proofs.Common.{◌≡◌, ◌++◌, ◌≤◌, length, take}
use Rattle.percent_encoding.specs.Percent.{percent_decode}
use Rattle.git_syntax.proofs.escape.front.Given as goal

abbrev pub invariant-loop-byte : goal.invariant-loop-byte
invariant-loop-byte l = record {
  small : l.count ≤ 4;
  fits : length l.window ≡ 4;
  whole : percent_decode l.text ≡ take l.count l.window ++ percent_decode l.rest;
}

abbrev pub decreases-loop-byte : goal.decreases-loop-byte
decreases-loop-byte l = length (percent_decode l.rest)

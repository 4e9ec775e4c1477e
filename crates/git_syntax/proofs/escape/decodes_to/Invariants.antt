-- The whole texts agree if and only if what is left of them does.
use Rattle.std.proofs.Common.{◌≡◌, length}
use Rattle.percent_encoding.specs.Percent.{percent_decode}
use Rattle.git_syntax.proofs.escape.decodes_to.Given as goal

abbrev pub invariant-loop-byte : goal.invariant-loop-byte
invariant-loop-byte l = record {
  agree : percent_decode l.left ≡ l.rest → percent_decode l.spelling ≡ l.path;
  agreed : percent_decode l.spelling ≡ l.path → percent_decode l.left ≡ l.rest;
}

abbrev pub decreases-loop-byte : goal.decreases-loop-byte
decreases-loop-byte l = length (percent_decode l.left)

-- The bytes decoded so far and the rest make up the whole.
use Rattle.std.proofs.Common.{◌≡◌, ◌≤◌, ◌++◌, length}
use Rattle.git_reads.specs.Git.{git_decode}
use Rattle.git_reads.proofs.decode.append_decoded.Given as goal

abbrev pub invariant-loop-first : goal.invariant-loop-first
invariant-loop-first l = record {
  whole : l.out.items ++ git_decode l.rest ≡ l.fn.out.items ++ git_decode l.text;
  within : length l.rest ≤ length l.text;
}

abbrev pub decreases-loop-first : goal.decreases-loop-first
decreases-loop-first l = length l.rest

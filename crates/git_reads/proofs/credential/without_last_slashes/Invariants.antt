-- The same is left of the rest so far.
use Rattle.std.proofs.Common.{◌≡◌, length}
use Rattle.git_reads.specs.Credentials.{without_last_slashes}
use Rattle.git_reads.proofs.credential.without_last_slashes.Given as goal

abbrev pub invariant-loop-front : goal.invariant-loop-front
invariant-loop-front l = without_last_slashes l.rest ≡ without_last_slashes l.text

abbrev pub decreases-loop-front : goal.decreases-loop-front
decreases-loop-front l = length l.rest

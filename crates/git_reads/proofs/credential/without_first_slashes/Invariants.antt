-- The text before the rest is slashes.
use Rattle.std.proofs.Common.{◌≡◌, ◌++◌, ℕ, true, List, length}
use Rattle.git_reads.specs.Credentials.{are_slashes}
use Rattle.git_reads.proofs.credential.without_first_slashes.Given as goal

abbrev pub invariant-loop-suffix : goal.invariant-loop-suffix
invariant-loop-suffix l = (slashes : List ℕ) × (l.text ≡ slashes ++ l.rest) × (are_slashes slashes ≡ true)

abbrev pub decreases-loop-suffix : goal.decreases-loop-suffix
decreases-loop-suffix l = length l.rest

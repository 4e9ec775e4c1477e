-- If the bytes so far begin none, the rest decides.
use Rattle.std.proofs.Common.{◌≡◌, length}
use Rattle.git_syntax.specs.Internal.WhiteSpace.{holds_space}
use Rattle.git_syntax.proofs.white_space.holds_space.Given as goal

abbrev pub invariant-loop-rest : goal.invariant-loop-rest
invariant-loop-rest l = holds_space l.rest ≡ holds_space l.text

abbrev pub decreases-loop-rest : goal.decreases-loop-rest
decreases-loop-rest l = length l.rest

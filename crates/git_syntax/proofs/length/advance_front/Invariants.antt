use Rattle.std.proofs.Common.{◌≡◌, ◌++◌, List, ℕ, length}
use Rattle.git_syntax.specs.declared.length.Stage.TheVariants.{Front}
use Rattle.git_syntax.specs.Internal.LengthChecks.{is_in_time}
use Rattle.git_syntax.proofs.length.advance_front.Given as goal

-- the rest has the outcome of all bytes
abbrev pub invariant-loop-rest : goal.invariant-loop-rest
invariant-loop-rest l = (suffix : List ℕ)
    → is_in_time l.web (Front l.left) (l.rest ++ suffix) ≡ is_in_time l.web (Front l.within) (l.bytes ++ suffix)

abbrev pub decreases-loop-rest : goal.decreases-loop-rest
decreases-loop-rest l = length l.rest

-- The count so far and that over the rest are the whole.
use Rattle.std.proofs.Common.{◌≡◌, ◌==◌, ◌+◌, length}
use Rattle.std.specs.List.{count_by}
use Rattle.git_syntax.specs.Bytes.{percent_sign}
use Rattle.git_location.proofs.writer.piece.count_percents.Given as goal

abbrev pub invariant-loop-rest : goal.invariant-loop-rest
invariant-loop-rest l = l.count + count_by (λ b. b == percent_sign) l.rest ≡ count_by (λ b. b == percent_sign) l.text

abbrev pub decreases-loop-rest : goal.decreases-loop-rest
decreases-loop-rest l = length l.rest

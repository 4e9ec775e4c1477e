-- The pairs so far are equal, so that the rests decide.
use Rattle.std.proofs.Common.{◌≡◌, drop}
use Rattle.std.specs.Cmp.Lexicographic.{pointwise}
use Rattle.git_laws.specs.ComponentEquality.{pair_eq}
use Rattle.gix_url.specs.ComponentViews.{pair_bytes}
use Rattle.gix_url.proofs.components.same.are_pairs_equal.Given as goal

abbrev pub invariant-loop-at : goal.invariant-loop-at
invariant-loop-at l =
    pointwise (λ p q. pair_eq (pair_bytes p) (pair_bytes q)) l.first l.second ≡ pointwise (λ p q. pair_eq (pair_bytes p) (pair_bytes q)) (drop l.at l.first) (drop l.at l.second)

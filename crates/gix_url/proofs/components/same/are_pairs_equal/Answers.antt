-- Pairs that differ at an index are different, and past the last index they are equal.
use Rattle.std.proofs.Common.{◌≡◌, ◌∙◌, ◌&&◌, ◌+◌, false, Bool, ap, sym, drop, arith}
use Rattle.std.specs.Cmp.Lexicographic.{pointwise}
use Rattle.gix_url.specs.declared.components.QueryText.{QueryText}
use Rattle.git_laws.specs.ComponentEquality.{pair_eq}
use Rattle.gix_url.specs.ComponentViews.{pair_bytes}
use Rattle.gix_url.proofs.ComponentCuts.SameLemmas.{pointwise_map, pointwise_step, pointwise_end}
use Rattle.gix_url.proofs.components.same.are_pairs_equal.Goals as goal

-- pairs compared by their bytes
abbrev same : QueryText × QueryText → QueryText × QueryText → Bool
same p q = pair_eq (pair_bytes p) (pair_bytes q)

pub returns-then-not-is_pair_equal : goal.returns-then-not-is_pair_equal
returns-then-not-is_pair_equal c =
    let first = c.args.first.now in
    let second = c.args.second.now in
    let at = c.loop-at.at in
    let x = c.index-first-at.result in
    let y = c.index-second-at.result in
    let no : same x y ≡ false = sym c.is_pair_equal.ensures ∙ c.if-not-is_pair_equal.true in
    let step = pointwise_step same first second at x y (omega arith) (omega arith) c.index-first-at.is c.index-second-at.is in
    sym (pointwise_map pair_eq pair_bytes first second ∙ c.loop-at.invariant ∙ step ∙ ap (λ b. b && pointwise same (drop (at + 1) first) (drop (at + 1) second)) no)

pub returns : goal.returns
returns c =
    let first = c.args.first.now in
    let second = c.args.second.now in
    sym (pointwise_map pair_eq pair_bytes first second ∙ c.loop-at.invariant ∙ pointwise_end same first second c.loop-at.at (omega arith) (omega arith))

use Rattle.std.proofs.Common.{◌∙◌, None, ap, length, refl, sym, subst}
use Rattle.git_rules.proofs.Rules.WinLemmas.{IsRewrittenSoFar, at_end, front_found, front_missed, none_so_far, so_far_found, so_far_missed, too_long}
use Rattle.git_rules.proofs.rewrite.table.rewritten.Goals as goal

pub loop-length-init : goal.loop-length-init
loop-length-init c =
    let gives = c.into_iter-length-iterator.ensures.into_iter_gives in
    λ rules fronts lengths. subst (λ left. IsRewrittenSoFar rules c.args.text.now left (record { base = None; rest = c.args.text.now })) (sym gives.0) (none_so_far rules c.args.text.now c.args.lengths.now _ refl refl gives.4 lengths)

pub returns-in_default : goal.returns-in_default
returns-in_default c =
    λ rules fronts lengths. too_long rules c.args.text.now c.loop-length.length-iterator c.in-Some.length.now c.next.new.self c.loop-length.outcome c.in-Some.ensures.steps c.in_default.ensures.cases (c.loop-length.invariant rules fronts lengths)

pub loop-length-preserved-in-Some-get : goal.loop-length-preserved-in-Some-get
loop-length-preserved-in-Some-get c =
    let cut = c.in-Some-split_at_checked.ensures.cases in
    λ rules fronts lengths. so_far_found rules c.args.text.now c.loop-length.length-iterator c.in-Some.length.now c.next.new.self c.loop-length.outcome _ c.in-Some-get.first.now c.in-Some.ensures.steps (front_found rules c.args.fronts.now c.in-Some-split_at_checked.front.now _ c.in-Some-get.first.now fronts cut.1 (sym c.in-Some-get.ensures.value)) (sym (ap length cut.1) ∙ cut.3) refl cut.2 (c.loop-length.invariant rules fronts lengths)

pub loop-length-preserved : goal.loop-length-preserved
loop-length-preserved c =
    let cut = c.in-Some-split_at_checked.ensures.cases in
    λ rules fronts lengths. so_far_missed rules c.args.text.now c.loop-length.length-iterator c.in-Some.length.now c.next.new.self c.loop-length.outcome c.in-Some.ensures.steps (front_missed rules c.args.fronts.now c.in-Some-split_at_checked.front.now _ fronts cut.1 (sym c.in_default-get.ensures.value)) (c.loop-length.invariant rules fronts lengths)

pub returns : goal.returns
returns c =
    λ rules fronts lengths. at_end rules c.args.text.now c.loop-length.length-iterator c.loop-length.outcome c.in-None.ensures.steps.0 (c.loop-length.invariant rules fronts lengths)

use Rattle.std.proofs.Common.{inl, inr, option_map, sym, ap, subst, ◌∙◌}
use Rattle.std.proofs.lemmas.Result.{err_from_is_err_and}
use Rattle.git_rules.proofs.Rules.EntryLemmas.{front_missing, front_refused}
use Rattle.git_rules.specs.RewriteErrors.{AddsEntry}
use Rattle.git_rules.proofs.rewrite.Rewrites.add_entry.Goals as goal

pub returns-in_err-rule_front : goal.returns-in_err-rule_front
returns-in_err-rule_front c =
    let reported = err_from_is_err_and c.from_residual.result c.from_residual.ensures.1 in
    let base = ap (λ e. e.subsection) (sym c.entry.view_is) ∙ ap (option_map (λ t. t.now)) c.in-Some.is in
    rw (reported.1, reported.2) (front_missing c.args.entry.now c.args.self.now _ _ (inl (sym c.sets.ensures ∙ c.if-sets.true)) base c.in_err-rule_front.ensures)

pub returns-in_err-rule_front-2 : goal.returns-in_err-rule_front-2
returns-in_err-rule_front-2 c =
    let reported = err_from_is_err_and c.from_residual-in_err-rule_front-2.result c.from_residual-in_err-rule_front-2.ensures.1 in
    let base = ap (λ e. e.subsection) (sym c.entry.view_is) ∙ ap (option_map (λ t. t.now)) c.in-Some.is in
    rw (reported.1, reported.2) (front_missing c.args.entry.now c.args.self.now _ _ (inr (sym c.sets-2.ensures ∙ c.if-sets-2.true)) base c.in_err-rule_front-2.ensures)

pub returns-in_err-add_fetch : goal.returns-in_err-add_fetch
returns-in_err-add_fetch c =
    let reported = err_from_is_err_and c.from_residual-in_err-add_fetch.result c.from_residual-in_err-add_fetch.ensures.1 in
    let base = ap (λ e. e.subsection) (sym c.entry.view_is) ∙ ap (option_map (λ t. t.now)) c.in-Some.is in
    subst (AddsEntry c.args.entry.now c.args.self.now c.add_fetch.new.self) (sym reported.1) (front_refused c.args.entry.now c.args.self.now c.add_fetch.new.self _ _ reported.0 (inl (sym c.sets.ensures ∙ c.if-sets.true)) base c.in_ok-rule_front.ensures reported.2 c.in_err-add_fetch.ensures.refused)

pub returns-in_err-add_push : goal.returns-in_err-add_push
returns-in_err-add_push c =
    let reported = err_from_is_err_and c.from_residual-in_err-add_push.result c.from_residual-in_err-add_push.ensures.1 in
    let base = ap (λ e. e.subsection) (sym c.entry.view_is) ∙ ap (option_map (λ t. t.now)) c.in-Some.is in
    subst (AddsEntry c.args.entry.now c.args.self.now c.add_push.new.self) (sym reported.1) (front_refused c.args.entry.now c.args.self.now c.add_push.new.self _ _ reported.0 (inr (sym c.sets-2.ensures ∙ c.if-sets-2.true)) base c.in_ok-rule_front-2.ensures reported.2 c.in_err-add_push.ensures.refused)

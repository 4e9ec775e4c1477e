use Rattle.std.proofs.Common.{sym, subst, ◌∙◌}
use Rattle.git_rules.specs.Rewrites.{IsRewritten}
use Rattle.git_rules.proofs.Rules.PushLemmas.{push_own, push_ruled, push_unruled}
use Rattle.git_rules.proofs.rewrite.Rewrites.rewrite_push.Goals as goal

pub returns-then-has_push_url : goal.returns-then-has_push_url
returns-then-has_push_url c =
    let fetched = subst (λ rules. IsRewritten rules.fetching c.args.text.now c.rewrite.result) c.self.view_is c.rewrite.ensures in
    push_own c.args.self.now c.args.has_push_url c.args.text.now c.rewrite.result c.if-has_push_url.true fetched

pub returns-then-is_rewritten : goal.returns-then-is_rewritten
returns-then-is_rewritten c =
    let pushed = subst (λ rules. IsRewritten rules.pushing c.args.text.now c.rewrite-pushed.result) c.self.view_is c.rewrite-pushed.ensures in
    push_ruled c.args.self.now c.args.has_push_url c.args.text.now c.rewrite-pushed.result c.if-has_push_url.false (sym c.is_rewritten.ensures ∙ c.if-is_rewritten.true) pushed

pub returns : goal.returns
returns c =
    let pushed = subst (λ rules. IsRewritten rules.pushing c.args.text.now c.rewrite-pushed.result) c.self.view_is c.rewrite-pushed.ensures in
    let fetched = subst (λ rules. IsRewritten rules.fetching c.args.text.now c.rewrite-2.result) c.self.view_is c.rewrite-2.ensures in
    push_unruled c.args.self.now c.args.has_push_url c.args.text.now c.rewrite-2.result c.rewrite-pushed.result c.if-has_push_url.false (sym c.is_rewritten.ensures ∙ c.if-is_rewritten.false) pushed fetched

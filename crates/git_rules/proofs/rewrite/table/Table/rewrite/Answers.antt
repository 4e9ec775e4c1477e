use Rattle.std.proofs.Common.{subst}
use Rattle.git_rules.specs.Rewrites.{IsRewritten}
use Rattle.git_rules.specs.RuleViews.{table_rules}
use Rattle.git_rules.proofs.rewrite.table.Table.rewrite.Goals as goal

pub returns : goal.returns
returns c =
    subst (λ rules. IsRewritten rules c.args.text.now c.rewritten.result) c.self.view_is (c.rewritten.ensures (table_rules c.self.inside) c.self.invariant.1 c.self.invariant.2)

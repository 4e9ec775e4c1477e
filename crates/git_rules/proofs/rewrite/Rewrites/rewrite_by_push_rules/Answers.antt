use Rattle.std.proofs.Common.{subst}
use Rattle.git_rules.specs.Rewrites.{IsRewritten}
use Rattle.git_rules.proofs.rewrite.Rewrites.rewrite_by_push_rules.Goals as goal

pub returns : goal.returns
returns c = subst (λ rules. IsRewritten rules.pushing c.args.text.now c.rewrite.result) c.self.view_is c.rewrite.ensures

-- By Git's decision without the two variables.
use Rattle.std.proofs.Common.{None, subst}
use Rattle.git_rules.specs.Policies.{Policy}
use Rattle.git_rules.specs.Protocols.{Decides}
use Rattle.explain_report.proofs.rules.transports.is_for_users.Goals as goal

pub returns : goal.returns
returns c = (
  c.permission.result,
  subst (λ (p : Policy). Decides (record p { allow_list = None; from_user = None }) c.args.name.now c.permission.result) c.protocols.view_is c.permission.ensures,
  c.is_allowed.ensures,
)

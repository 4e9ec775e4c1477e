-- The name of the transport is that of the location's scheme.
use Rattle.std.proofs.Common.{◌∙◌, None, ap, subst}
use Rattle.gix_url.specs.Location.{Location}
use Rattle.gix_url.specs.Schemes.{scheme_text}
use Rattle.git_rules.specs.Protocols.{Decides}
use Rattle.user_proofs.proofs.policy.is_used_by.Goals as goal

pub returns : goal.returns
returns c =
    let name = c.transport.ensures ∙ ap (λ (v : Location). scheme_text v.scheme) c.as_ref.ensures in
    (c.permission.result, subst (λ n. Decides (record { entries = c.args.entries.now; allow_list = None; from_user = None }) n c.permission.result) name c.permission.ensures, c.is_allowed.ensures)

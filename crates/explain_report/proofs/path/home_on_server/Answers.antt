-- The home folder and the path below it, as they are split.
use Rattle.std.proofs.Common.{◌∙◌, option_map, subst}
use Rattle.std.proofs.lemmas.Result.{IfOk-weaker}
use Rattle.bstr.specs.Owned.{bstring_bytes}
use Rattle.gix_url.specs.Homes.{SplitsHome}
use Rattle.gix_url.specs.HomeReadings.{user_of}
use Rattle.explain_report.specs.Homes as spec
use Rattle.explain_report.proofs.path.home_on_server.Goals as goal

pub returns : goal.returns
returns c =
    let user = option_map user_of c.in_ok-user.user in
    let below = bstring_bytes c.in_ok-user.below in
    IfOk-weaker c.reported_home-home.result _ _ (λ home h. (user, below, subst (λ path. SplitsHome path user below) (c.as_bstr.ensures ∙ c.in_ok-path.ensures) c.in_ok-user.ensures, subst (λ path. spec.ReportsHome user path home) c.as_bstr-2.ensures h)) c.reported_home-home.ensures

-- The path is split as `parse` says, and its rest expanded.
use Rattle.std.proofs.Common.{◌∙◌, ap, option_map, subst}
use Rattle.bstr.specs.BStr.{bstr_bytes}
use Rattle.bstr.specs.Owned.{bstring_bytes}
use Rattle.gix_url.specs.Homes.{SplitsHome}
use Rattle.gix_url.specs.HomeReadings.{user_of}
use Rattle.call_bench.specs.Answers.{IsExpansionLength}
use Rattle.call_bench.proofs.expand.Goals as goal

pub returns-in-Ok : goal.returns-in-Ok
returns-in-Ok c = λ more.
    let user = option_map user_of c.in-Ok.user in
    let rest = bstring_bytes c.in-Ok.rest in
    let path = bstr_bytes c.as_bstr-in-Ok.result in (
      user,
      rest,
      subst (λ whole. SplitsHome whole user rest) (c.as_bstr.ensures ∙ ap (λ v. v.path) c.url.view_is) c.in-Ok.ensures.split,
      subst (λ t. IsExpansionLength user t c.expand_path.result) c.as_bstr-in-Ok.ensures
          (subst (λ who. IsExpansionLength (option_map user_of who) path c.expand_path.result) c.as_ref.ensures.value (c.expand_path.ensures more)),
    )

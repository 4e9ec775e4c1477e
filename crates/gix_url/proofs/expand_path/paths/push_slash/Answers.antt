-- A folder is ready if it is empty or ends in `/`, and is made so by a `/`.
use Rattle.std.proofs.Common.{refl, sym, subst, ap, ◌<◌, ◌∙◌, ◌++◌, length, arith}
use Rattle.std.specs.String.{string_bytes}
use Rattle.std.proofs.lemmas.Bool.Decides.{nat_tests}
use Rattle.gix_url.specs.Paths.{Opens}
use Rattle.gix_url.proofs.Homes.PathLemmas.{opens_name}
use Rattle.gix_url.proofs.expand_path.paths.push_slash.Goals as goal

pub returns-in-Some : goal.returns-in-Some
returns-in-Some c = Opens.after_slash c.in-Some.field-0.now (sym c.as_bytes.ensures.value ∙ c.in-Some.ensures) refl

pub returns-in_ok-push-in-None : goal.returns-in_ok-push-in-None
returns-in_ok-push-in-None c =
    let folder = string_bytes c.args.folder.now in
    let some : 0 < length c.as_bytes.result.now = grind (arith, nat_tests) in
    let ready = opens_name folder (subst (λ t. 0 < length t) c.as_bytes.ensures.value some) (λ front e. c.in-None.ensures front (c.as_bytes.ensures.value ∙ e)) in
    subst (Opens folder) (sym (c.in_ok-push-in-None.ensures.bytes ∙ ap (λ t. folder ++ t) (c.in_ok-push-in-None.ensures.ascii (omega arith)))) ready

-- The folder that was found is the user's, so the path below it is the expanded path.
use Rattle.std.proofs.Common.{subst, ◌≡◌, ◌∙◌}
use Rattle.std.specs.Option.{option_copied}
use Rattle.bstr.specs.BStr.{bstr_bytes}
use Rattle.gix_url.specs.Homes.{HomeFolder}
use Rattle.gix_url.specs.HomeReadings.{Expansion, user_of}
use Rattle.gix_url.proofs.Homes.HomeLemmas.{expansion_weaker, answers_expanded}
use Rattle.gix_url.proofs.expand_path.expand_path.Goals as goal

pub returns-in_ok-folder-in-Some-user-clause-expanded : goal.returns-in_ok-folder-in-Some-user-clause-expanded
returns-in_ok-folder-in-Some-user-clause-expanded c = λ text.
    let user = user_of c.in-Some-user.user.now in
    let home = HomeFolder (option_copied c.args.home) user in
    let same : c.in-Some.path.now ≡ bstr_bytes c.args.path = c.in-Some.ensures.text.0 ∙ c.as_bytes.ensures in
    let below = subst (λ p. Expansion home user p c.enter.result) same
    (expansion_weaker _ home (λ folder e. subst home e c.in_ok-folder-in-Some-user.ensures) user c.in-Some.path.now c.enter.result c.enter.ensures) in
    rw c.in-Some-user.is (answers_expanded (option_copied c.args.home) user (bstr_bytes c.args.path) c.enter.result below)

-- The answer of the closure is the home folder.
use Rattle.std.proofs.Common.{refl, subst, option_map, ◌≡◌, ◌∙◌}
use Rattle.std.specs.String.{string_bytes}
use Rattle.bstr.specs.BStr.{bstr_bytes}
use Rattle.gix_url.specs.HomeReadings.{Expansion, user_of}
use Rattle.gix_url.proofs.expand_path.with.Goals as goal

pub returns-in-Some-user-clause-at_home : goal.returns-in-Some-user-clause-at_home
returns-in-Some-user-clause-at_home g c = λ text.
    let same : c.in-Some.text.now ≡ bstr_bytes c.args.path = c.in-Some.ensures.text.0 ∙ c.as_bytes.ensures in
    let below = subst (λ p. Expansion (λ folder. option_map string_bytes c.home.result ≡ folder) (user_of c.in-Some-user.user.now) p c.enter.result) same c.enter.ensures in
    rw c.in-Some-user.is (c.home.result, (c.in-Some-user.user, c.home.ensures, refl), below)

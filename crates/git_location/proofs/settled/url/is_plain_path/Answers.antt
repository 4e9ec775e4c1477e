-- A plain path is raw, and without a spelling none matches it.
use Rattle.std.proofs.Common.{◌≡◌, ◌∙◌, ap, option_map, sym, subst, true}
use Rattle.git_syntax.specs.Location.{Location}
use Rattle.git_syntax.specs.Escapes.{is_plain}
use Rattle.git_location.proofs.SettledClass.SettledLemmas.{plain_raw_path}
use Rattle.git_location.proofs.settled.url.is_plain_path.Goals as goal

pub returns-in-None : goal.returns-in-None
returns-in-None c = λ plain.
    let none = sym (ap (λ (v : Location). v.spelling) c.url.view_is) ∙ ap (option_map (λ t. t.now)) c.in-None.is in
    let path = subst (λ p. is_plain p ≡ true) (ap (λ (v : Location). v.path) c.url.view_is) (sym c.is_plain.ensures ∙ plain) in
    plain_raw_path c.args.url.now none path

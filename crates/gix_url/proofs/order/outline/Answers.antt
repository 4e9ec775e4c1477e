-- Each byte is that of its part.
use Rattle.std.proofs.Common.{◌∷◌, [], ap, ◌∙◌, string_bytes}
use mir.Val.{bool_byte}
use Rattle.bstr.specs.Owned.{bstring_bytes}
use Rattle.git_laws.specs.Order.{outline}
use Rattle.git_laws.proofs.Order.HashLemmas.{byte_fed, there_fed}
use Rattle.gix_url.proofs.order.outline.Goals as goal

pub returns : goal.returns
returns c =
    let u = c.url.inside in
    (λ i. c.rank.ensures i
    ∷ there_fed string_bytes u.user _ c.is_some.ensures i
    ∷ there_fed string_bytes u.password _ c.is_some-2.ensures i
    ∷ there_fed string_bytes u.host _ c.is_some-3.ensures i
    ∷ byte_fed u.serialize_alternative_form i
    ∷ (ap bool_byte c.is_some-4.ensures ∙ byte_fed _) i
    ∷ 1
    ∷ there_fed bstring_bytes u.spelling _ c.is_some-5.ensures i
    ∷ [])
    ∙ ap outline c.url.view_is

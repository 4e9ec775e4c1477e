-- The bytes of the name are reported.
use Rattle.std.proofs.Common.{refl, ap, ◌∙◌}
use Rattle.gix_url.proofs.from_parts.invalid.Goals as goal

pub returns : goal.returns
returns c = (_, refl, c.new-name.ensures ∙ ap (λ v. v.items) c.into_bytes.ensures.value)

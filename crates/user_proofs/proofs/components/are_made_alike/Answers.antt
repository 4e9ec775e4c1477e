-- A location has one value of its components, so two that share one have no other.
use Rattle.std.proofs.Common.{◌≡◌, true, sym, ◌∙◌}
use Rattle.gix_url.specs.Location.{Location}
use Rattle.gix_url.specs.Components.{Components, ComponentsOf}
use Rattle.gix_url.specs.ComponentEquality.{components_eq}
use Rattle.gix_url.specs.ComponentLaws.{EqualComponents, OneComponents}
use Rattle.user_proofs.proofs.components.are_made_alike.Goals as goal

alike : OneComponents → EqualComponents → (v w : Location) (p q : Components) → ComponentsOf v p → ComponentsOf w q → (c : Components) → ComponentsOf v c → ComponentsOf w c → components_eq p q ≡ true
alike one equal v w p q pv qw c cv cw = (equal p q).1 ((one v).2 p pv ∙ sym ((one v).2 c cv) ∙ (one w).2 c cw ∙ sym ((one w).2 q qw))

pub returns-clause-alike : goal.returns-clause-alike
returns-clause-alike c = λ d one other. c.eq.ensures ∙ alike c.law_components.ensures.one c.law_components.ensures.equal c.args.one.now c.args.other.now _ _ c.in_ok-parts.ensures.parts c.in_ok-others.ensures.parts d one other

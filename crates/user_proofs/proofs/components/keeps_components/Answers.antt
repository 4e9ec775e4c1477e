-- The text of a settled location of HTTP spells one with the same components.
use Rattle.std.proofs.Common.{◌≡◌, ℕ, Bool, true, List, Result, Ok, Err, IfOk}
use Rattle.gix_url.specs.Location.{Location}
use Rattle.gix_url.specs.Grammar.{Spells}
use Rattle.gix_url.specs.Text.{text}
use Rattle.gix_url.specs.Settled.{IsSettled, IsValue, IsWeb}
use Rattle.gix_url.specs.Components.{Components, ComponentsOf}
use Rattle.gix_url.specs.ComponentLaws.{OneComponents}
use Rattle.gix_url.specs.Laws.{SameComponents, SettledAgain}
use Rattle.gix_url.specs.declared.error.Error.{Error}
use Rattle.user_proofs.proofs.components.keeps_components.Goals as goal

kept : SettledAgain → SameComponents → OneComponents → (v back : Location) → IsValue v → ((t : List ℕ) → text v ≡ Ok t → Spells t back) → (r : Result Bool Error) → IfOk r (λ alike. (c : Components) → ComponentsOf v c → ComponentsOf back c → alike ≡ true) → IfOk r (λ same. IsWeb v → IsSettled v → same ≡ true)
kept again components one v back value read (Err e) made = tt
kept again components one v back value read (Ok alike) made = λ web settled.
    let comes = (again v value settled).0 in
    let reads = read comes.written comes.has_text in
    made (one v).0 (one v).1 ((components v back comes.written value web settled comes.has_text reads (one v).0).1 (one v).1)

pub returns-clause-kept : goal.returns-clause-kept
returns-clause-kept c = kept c.law_separation.ensures.settled_again c.law_separation.ensures.components c.law_components.ensures.one c.args.url.now c.in_ok-back.back c.law_value.ensures.value (λ t written. (c.in_ok-back.ensures.read t written).found) c.are_made_alike.result c.are_made_alike.ensures.alike

-- A host that is returned is that of the location, which the text spells.
use Rattle.std.proofs.Common.{◌≡◌, ℕ, List, Option, Some, None, IfSome, option_map, String, refl, sym, ap}
use Rattle.std.specs.String.{string_bytes}
use Rattle.git_readers.specs.Conditions.{IsUnambiguous}
use Rattle.gix_url.specs.Location.{Location}
use Rattle.gix_url.specs.Grammar.{Spells}
use Rattle.user_proofs.proofs.calling.host_of.Goals as goal

named : {Z : Type 0} (host : Option (String Z)) (v : Location) (b : List ℕ) → Spells b v → IsUnambiguous v → option_map string_bytes host ≡ v.host → IfSome host (λ h. (w : Location) × Spells b w × IsUnambiguous w × (w.host ≡ Some (string_bytes h)))
named None v b spelled clear same = tt
named (Some h) v b spelled clear same = (v, spelled, clear, sym same)

pub returns-clause-named : goal.returns-clause-named
returns-clause-named c = named _ c.in_ok-url.url _ c.in_ok-url.ensures.found (c.if-not-is_unambiguous.ensures.decided.0 refl) (ap (λ v. v.host) c.url.view_is)

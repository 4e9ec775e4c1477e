-- If memory sufficed, a refusal says that nothing is spelled.
use Rattle.std.proofs.Common.{◌≡◌, ◌↔◌, inl, inr, IsTrue, List, ℕ, false, subst}
use Rattle.std.proofs.lemmas.Bool.{false≢true}
use Rattle.gix_url.specs.Grammar.{Spells}
use Rattle.gix_url.specs.Readings.{Refuses}
use Rattle.gix_url.specs.Location.{Location}
use Rattle.gix_url.specs.declared.error.Error.{Error}
use Rattle.gix_url.specs.declared.error.Error.TheVariants as error
use Rattle.user_proofs.proofs.reading.is_location.Goals as goal

refused : (b : List ℕ) (e : Error) → Refuses b e → IsTrue false ↔ (e ≡ error.Memory) → IsTrue false ↔ ((v : Location) × Spells b v)
refused b e (inl is) h = ((λ t. absurd (false≢true t)), (λ s. h.1 is))
refused b e (inr none) h = ((λ t. absurd (false≢true t)), (λ (v, spelled). absurd (none v spelled)))

pub returns-clause-decided : goal.returns-clause-decided
returns-clause-decided c = refused c.args.bytes.now c.in-Err.error (subst (λ b. Refuses b c.in-Err.error) c.new.ensures c.in-Err.ensures.refused) c.if-is_memory.ensures

-- The text of a settled location spells it again, and the location that is
-- spelled is the one that is read, unless memory is refused.
use Rattle.std.proofs.Common.{◌≡◌, inl, inr, List, ℕ, Result, IfOk, IfErr, refl, sym, subst}
use Rattle.gix_url.specs.Readings.{Reads, SpellsAgain}
use Rattle.gix_url.specs.Location.{Location, fields}
use Rattle.gix_url.specs.declared.error.Error.{Error}
use Rattle.gix_url.specs.declared.error.Error.TheVariants as error
use Rattle.user_proofs.proofs.reading.through_text.Goals as goal

again : (v : Location) (b : List ℕ) (r : Result Location Error) → SpellsAgain v b → Reads b r → IfOk r (λ w. fields w ≡ fields v) × IfErr r (λ e. e ≡ error.Memory)
again v b r h read = elim (read.answered h.back h.spelled) [
  | inl is ↦ subst (λ x. IfOk x (λ w. fields w ≡ fields v) × IfErr x (λ e. e ≡ error.Memory)) (sym is) (h.again.same_fields, tt)
  | inr is ↦ subst (λ x. IfOk x (λ w. fields w ≡ fields v) × IfErr x (λ e. e ≡ error.Memory)) (sym is) (tt, refl)
]

pub returns-clause-same : goal.returns-clause-same
returns-clause-same c h = (again c.args.url.now _ c.parse.result (c.in_ok-text.ensures.settled h) (subst (λ b. Reads b c.parse.result) c.as_bstr.ensures c.parse.ensures)).0

pub returns-clause-memory : goal.returns-clause-memory
returns-clause-memory c h = (again c.args.url.now _ c.parse.result (c.in_ok-text.ensures.settled h) (subst (λ b. Reads b c.parse.result) c.as_bstr.ensures c.parse.ensures)).1

-- The location that is read from the text of a settled location.
use Rattle.std.proofs.Common.{◌≡◌, inl, inr, ℕ, List, Result, Ok, Err, refl, sym, ap, subst, ◌∙◌}
use Rattle.std.specs.Prelude.{IfOk, IfErr}
use Rattle.bstr.specs.declared.bstring.BString.{BString}
use Rattle.bstr.specs.Owned.{bstring_bytes}
use Rattle.gix_url.specs.declared.error.Error.{Error}
use Rattle.gix_url.specs.declared.error.Error.TheVariants as error
use Rattle.git_syntax.specs.Location.{Location}
use Rattle.git_location.specs.Text.{text}
use Rattle.git_location.specs.Settled.{IsValue, IsSettled}
use Rattle.gix_url.specs.Readings.{Reads, WritesAgain, ReadsAgain}
use Rattle.git_location.specs.Readings.{SpellsAgain}
use Rattle.git_laws.proofs.Writing.RereadLemmas.{text_again}

-- the result of writing a settled location into memory: its text, or `Memory`
pub written_again : (v : Location) (t : List ℕ) (r : Result BString Error) → IsValue v → Ok t ≡ text v → IfOk r (λ s. bstring_bytes s ≡ t) → IfErr r (λ e. e ≡ error.Memory)
    → IsSettled v → WritesAgain v r
written_again v t (Ok s) is written same memory h = text_again v (bstring_bytes s) is h (sym written ∙ ap Ok (sym same))
written_again v t (Err e) is written same memory h = memory

-- the location that is read from the bytes that spell a location again is that location
pub read_again : (v : Location) (b input : List ℕ) (r : Result Location Error) → input ≡ b → SpellsAgain v b → Reads input r → ReadsAgain v r
read_again v b input r same h reads = read_as v b r h (subst (λ s. Reads s r) same reads)
  where
    read_as : (v : Location) (b : List ℕ) (r : Result Location Error) → SpellsAgain v b → Reads b r → ReadsAgain v r
    read_as v b r h reads = elim (reads.answered h.back h.spelled) [ inl it ↦ subst (ReadsAgain v) (sym it) h.again | inr memory ↦ subst (ReadsAgain v) (sym memory) refl ]

-- The answers of a reader that finds the location that the bytes spell, or
-- refuses, with memory or with a buffer: both answer alike.
use Rattle.std.proofs.Common.{◌≡◌, ◌⊎◌, inl, inr, ℕ, List, [], Result, Ok, Err, ap, subst}
use Rattle.std.specs.Prelude.{IfOk, IfErr}
use Rattle.gix_url.specs.declared.error.Error.{Error}
use Rattle.gix_url.specs.declared.error.Error.TheVariants as error
use Rattle.git_location.specs.declared.parse_error.ParseError.TheVariants as unread
use Rattle.git_syntax.specs.Location.{Location}
use Rattle.git_syntax.specs.Grammar.{Spells}
use Rattle.gix_url.specs.Flaws.{Flaw}
use Rattle.gix_url.specs.Readings.{Refuses, Reads}
use Rattle.gix_url.specs.Laws.{ReadersAgree, SameWithBuffer}
use Rattle.git_syntax.proofs.Unique.UniqueLemmas.{spells_unique}
use Rattle.git_refusals.proofs.Refusing.UnspelledLemmas.{refused_unspelled}
use Rattle.git_refusals.specs.declared.refusal.Refusal.{Refusal}
use Rattle.git_refusals.specs.Reasons.{Refused}
use Rattle.git_location.proofs.Unique.AnsweredLemmas.{answer_spelled}
use Rattle.std.proofs.Common.{◌≢◌, refl}
use Rattle.gix_url.specs.Refusals.{Exclusive}

-- the location that the bytes spell is the answer, unless memory ran out
one_answer : (b : List ℕ) (r : Result Location Error) → IfOk r (Spells b) → IfErr r (Refuses b) → (v : Location) → Spells b v → (r ≡ Ok v) ⊎ (r ≡ Err error.Memory)
one_answer b (Ok w) found refused v spelled = inl (ap Ok (spells_unique b w v found spelled))
one_answer b (Err e) found (inl memory) v spelled = inr (ap Err memory)
one_answer b (Err e) found (inr none) v spelled = absurd (none v spelled)

-- so such an answer is that of reading
pub reads_by : (b t : List ℕ) (r : Result Location Error) → b ≡ t → IfOk r (Spells b) → IfErr r (Refuses b) → IfErr r (Flaw b) → (b ≡ [] → r ≡ Err error.EmptyLocal) → Reads t r
reads_by b t r same found refused flaw empty = subst (λ s. Reads s r) same record { found = found; refused = refused; flaw = flaw; empty = empty; answered = one_answer b r found refused }

-- an error of the one says that memory ran out, if the bytes spell a location
memory_alone : (b : List ℕ) (e : Error) (v : Location) → Refuses b e → Spells b v → e ≡ error.Memory
memory_alone b e v (inl memory) spelled = memory
memory_alone b e v (inr none) spelled = absurd (none v spelled)

-- they answer alike
pub readers_agree : ReadersAgree
readers_agree b buffer_len (Ok v) (Ok w) owned borrowed = spells_unique b v w owned.found borrowed.found
readers_agree b buffer_len (Ok v) (Err unread.NoRoom) owned borrowed = borrowed.refused.1
readers_agree b buffer_len (Ok v) (Err (unread.Refused refusal)) owned borrowed = borrowed.refused.0 v owned.found
readers_agree b buffer_len (Err e) (Ok w) owned borrowed = memory_alone b e w owned.refused borrowed.found
readers_agree b buffer_len (Err e) (Err unread.NoRoom) owned borrowed =
    let (some, short) = borrowed.refused in (memory_alone b e some.0 owned.refused some.1, short)
readers_agree b buffer_len (Err e) (Err (unread.Refused refusal)) owned borrowed = tt

-- the location that the one returns, unless memory ran out, is the one that is spelled
answer_owned : (b : List ℕ) (r : Result Location Error) → Reads b r → ¬ (r ≡ Err error.Memory) → (v : Location) → Spells b v → r ≡ Ok v
answer_owned b r reads ample v spelled = elim (reads.answered v spelled) [ inl is ↦ is | inr memory ↦ absurd (ample memory) ]

-- and with a buffer as long as the bytes they return the same locations
pub same_with_buffer : SameWithBuffer
same_with_buffer b buffer_len owned borrowed enough reads reads_in ample v = (
  λ is. (reads_in.exact enough v).1 (answer_spelled b owned reads.found v is),
  λ is. answer_owned b owned reads ample v ((reads_in.exact enough v).0 is),
)

-- each error except `Memory` is that of a refusal
error_refused : (b : List ℕ) (e : Error) → e ≢ error.Memory → Flaw b e → (r : Refusal) × Refused b r
error_refused b error.Memory other h = absurd (other refl)
error_refused b error.EmptyLocal other h = (h.0, h.1)
error_refused b (error.MissingPath k input) other h = (h.0, h.1)
error_refused b (error.NotUtf8 k input) other h = (h.0, h.1)
error_refused b (error.TooLong shown total) other h = (h.0, h.1)
error_refused b (error.BadUrl k named input) other h = (h.0, h.1)
error_refused b _ other h = absurd h.2

-- so bytes with such an error spell no location
pub exclusive : Exclusive
exclusive b e v other h = let (r, refused) = error_refused b e other h in refused_unspelled b r refused v

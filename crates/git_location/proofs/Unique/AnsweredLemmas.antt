-- The answers of a reader that finds the location that the bytes spell, or
-- refuses, with memory or with a buffer: both answer alike.
use Rattle.std.proofs.Common.{◌≡◌, ◌≤◌, ◌<◌, ℕ, List, [], length, Result, Ok, Err, ap, subst, arith}
use Rattle.std.specs.Prelude.{IfOk, IfErr}
use Rattle.git_location.specs.declared.parse_error.ParseError.{ParseError}
use Rattle.git_location.specs.declared.parse_error.ParseError.TheVariants as unread
use Rattle.git_refusals.specs.Kinds.{empty_refusal}
use Rattle.git_syntax.specs.Location.{Location}
use Rattle.git_syntax.specs.Grammar.{Spells}
use Rattle.git_location.specs.Readings.{RefusesIn, ReadsIn}
use Rattle.git_syntax.specs.SimpleTexts.{IsSimpleText}
use Rattle.git_syntax.proofs.ByMasks.SimpleTextLemmas.{simple_spelled}
use Rattle.git_syntax.proofs.Parsing.ClassifierLemmas.{empty_unspelled}
use Rattle.git_syntax.proofs.Unique.UniqueLemmas.{spells_unique}

-- ---- reading into a buffer

-- a returned location is spelled
pub answer_spelled : {E : Type 0} (b : List ℕ) (r : Result Location E) → IfOk r (Spells b) → (v : Location) → r ≡ Ok v → Spells b v
answer_spelled {E} b r found v e = let Found : Result Location E → Type 0 = λ answer. IfOk answer (Spells b) in subst Found e found

-- a spelled location is returned if the buffer has as many bytes
spelled_answered : (b : List ℕ) (buffer_len : ℕ) (r : Result Location ParseError) → IfOk r (Spells b) → IfErr r (RefusesIn b buffer_len) → length b ≤ buffer_len → (v : Location) → Spells b v → r ≡ Ok v
spelled_answered b buffer_len (Ok w) found refused enough v spelled = ap Ok (spells_unique b w v found spelled)
spelled_answered b buffer_len (Err unread.NoRoom) found (some, short) enough v spelled = absurd (omega (arith, short, enough))
spelled_answered b buffer_len (Err (unread.Refused why)) found (none, flaw) enough v spelled = absurd (none v spelled)

-- so such an answer is that of reading into a buffer
pub reads_in_by : (b : List ℕ) (buffer_len : ℕ) (r : Result Location ParseError) → IfOk r (Spells b) → IfErr r (RefusesIn b buffer_len) → IfOk r (λ v. length b ≤ buffer_len) → (b ≡ [] → r ≡ Err (unread.Refused empty_refusal)) → ReadsIn b buffer_len r
reads_in_by b buffer_len r found refused fits empty = record { found = found; refused = refused; fits = fits; empty = empty; exact = λ enough v. (answer_spelled b r found v, spelled_answered b buffer_len r found refused enough v) }

-- a simple text is read
pub simple_read : (b : List ℕ) (buffer_len : ℕ) (v : Location) → IsSimpleText b v → length b ≤ buffer_len → ReadsIn b buffer_len (Ok v)
simple_read b buffer_len v simple enough =
    let spelled = simple_spelled b v simple in
    reads_in_by b buffer_len (Ok v) spelled tt enough (λ e. absurd (empty_unspelled v (subst (λ t. Spells t v) e spelled)))

-- unless the buffer is too short
pub simple_short : (b : List ℕ) (buffer_len : ℕ) (v : Location) → IsSimpleText b v → buffer_len < length b → ReadsIn b buffer_len (Err unread.NoRoom)
simple_short b buffer_len v simple short =
    let spelled = simple_spelled b v simple in
    reads_in_by b buffer_len (Err unread.NoRoom) tt ((v, spelled), short) tt (λ e. absurd (empty_unspelled v (subst (λ t. Spells t v) e spelled)))

-- ---- both readers

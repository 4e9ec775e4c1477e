-- The laws of the library, over the definitions alone: one definition for each.
use Rattle.std.specs.Prelude.{◌≡◌, ℕ, ◌<◌, ◌≤◌, ◌↔◌, List, length, Result, Ok, Err}
use Rattle.gix_url.specs.declared.error.Error.{Error}
use Rattle.gix_url.specs.declared.error.Error.TheVariants as error
use Rattle.git_location.specs.declared.parse_error.ParseError.{ParseError}
use Rattle.git_location.specs.declared.parse_error.ParseError.TheVariants as unread
use Rattle.git_syntax.specs.Location.{Location}
use Rattle.gix_url.specs.Readings.{Reads}
use Rattle.git_location.specs.Readings.{ReadsIn}
pub use Rattle.git_laws.specs.Laws.{Unique, ComesBack, SettledAgain, ReadAgain, TextDecides, SameComponents, is_closed, IsException, Closed, Apart, Exact, keeps_bytes, KeepsBytes, ExactByFields, Unchanged, Writable, SpellsLocalBefore, SpellsBefore, KeepsEarlier, EqualIsSame, TiedIsEqual, FedAlike, LocationsFedApart, SchemesFedApart, SpellingLast}

-- the results of two readers for the same bytes, one that allocates and one with a buffer, agree: the same
-- location, or a refusal each; otherwise an allocation of the one failed, or the buffer of the other is shorter
-- than the bytes
abbrev pub AnswerAlike : List ℕ → ℕ → Result Location Error → Result Location ParseError → Type 0
AnswerAlike b buffer_len (Ok v) (Ok w) = v ≡ w
AnswerAlike b buffer_len (Ok v) (Err unread.NoRoom) = buffer_len < length b
AnswerAlike b buffer_len (Ok v) (Err (unread.Refused refusal)) = ⊥
AnswerAlike b buffer_len (Err e) (Ok w) = e ≡ error.Memory
AnswerAlike b buffer_len (Err e) (Err unread.NoRoom) = (e ≡ error.Memory) × (buffer_len < length b)
AnswerAlike b buffer_len (Err e) (Err (unread.Refused refusal)) = Unit {0}

-- reading the same bytes with allocation and into a buffer has the same result: one location or a refusal each,
-- unless an allocation failed or the buffer is shorter than the bytes
abbrev pub ReadersAgree : Type 0
ReadersAgree = (b : List ℕ) (buffer_len : ℕ) (owned : Result Location Error)
    (borrowed : Result Location ParseError) → Reads b owned → ReadsIn b buffer_len borrowed
    → AnswerAlike b buffer_len owned borrowed

-- if the buffer is at least as long as the bytes, reading into it returns a location exactly if reading with
-- allocation returns it, unless an allocation failed
abbrev pub SameWithBuffer : Type 0
SameWithBuffer = (b : List ℕ) (buffer_len : ℕ) (owned : Result Location Error)
    (borrowed : Result Location ParseError) → length b ≤ buffer_len → Reads b owned → ReadsIn b buffer_len borrowed
    → ¬ (owned ≡ Err error.Memory)
    → (v : Location) → (owned ≡ Ok v) ↔ (borrowed ≡ Ok v)

-- The results of the functions that read the parts of a configuration file.
use Rattle.std.specs.Prelude.{◌≡◌, ℕ, ◌+◌, ◌<◌, ◌≤◌, ◌&&◌, ◌==◌, not, Bool, true, false, List, [], ◌∷◌, Option, Result, Ok, Err, MatchOption, length, take}
use Rattle.git_syntax.specs.Bytes.{begins_with, newline}
use Rattle.git_modules.specs.declared.config_file.place.Wrong.{Wrong}
use Rattle.git_modules.specs.declared.config_file.word.Class.{Class}
use Rattle.git_modules.specs.declared.config_file.word.Class.TheVariants.{Name, Section, AfterName, AfterSection}
use Rattle.git_modules.specs.ConfigFileBytes.{left_at, is_gap, is_blank, is_key_byte, is_section_byte}
use Rattle.git_modules.specs.ConfigFileFlaws.{Read, Refusal, prefixed}
use Rattle.git_modules.specs.ConfigFileHeaders.{header_end, quoted_text}
use Rattle.git_rules.specs.CommandLines.{double_quote}

-- the first byte at an offset, and the offset after it
abbrev pub GivesByte : List ℕ → ℕ → Option (ℕ × ℕ) → Type 0
GivesByte text at r = MatchOption r (left_at text at ≡ [])
    (λ p. (left_at text at ≡ p.0 ∷ left_at text p.1) × (at < p.1) × (p.1 ≤ length text))

-- the rest is empty or begins with a line feed
abbrev pub ends_line : List ℕ → Bool
ends_line [] = true
ends_line (c ∷ rest) = begins_with newline (c ∷ rest)

-- the bytes of a class
abbrev pub is_of : Class → ℕ → Bool
is_of Name = is_key_byte
is_of Section = is_section_byte
is_of AfterName = is_gap
is_of AfterSection = is_blank

-- an error in the form of the definitions
abbrev pub refusal_of : List ℕ → Wrong → Refusal
refusal_of text w = record { flaw = w.flaw; rest = left_at text w.at; is_late = w.is_late }

-- the bytes that were written to the front of a buffer, and the text from the offset that was reached
abbrev pub read_as : List ℕ → List ℕ → Result (ℕ × ℕ) Wrong → Read
read_as text buffer (Ok p) = Ok (take p.0 buffer, left_at text p.1)
read_as text buffer (Err w) = Err (refusal_of text w)

-- the offset that was reached is within the text, and at most as many bytes were written as were read since the
-- offset `at`
abbrev pub IsWithin : List ℕ → ℕ → ℕ → Result (ℕ × ℕ) Wrong → Type 0
IsWithin text at front (Ok p) = (at ≤ p.1) × (p.1 ≤ length text) × (p.0 + at ≤ front + p.1)
IsWithin text at front (Err w) = (at ≤ w.at) × (w.at ≤ length text)

-- the offset that was reached is within the text, and the text from there on is as a definition has it
abbrev pub IsReached : List ℕ → Result (List ℕ) Refusal → Result ℕ Wrong → Type 0
IsReached text expected (Ok at) = (at ≤ length text) × (expected ≡ Ok (left_at text at))
IsReached text expected (Err w) = (w.at ≤ length text) × (expected ≡ Err (refusal_of text w))

-- the `]` after a subsection is read, whatever was read before it
abbrev pub ReadsEnd : List ℕ → ℕ → ℕ → Result (ℕ × ℕ) Wrong → Type 0
ReadsEnd text at len (Ok p) = (p.0 ≡ len) × (at < p.1) × (p.1 ≤ length text)
    × ((stem : List ℕ) → header_end stem (left_at text at) ≡ Ok (stem, left_at text p.1))
ReadsEnd text at len (Err w) = (w.at ≡ at)
    × ((stem : List ℕ) → header_end stem (left_at text at) ≡ Err (refusal_of text w))

-- a byte of a subsection is written, or begins an escape
abbrev pub PutsQuoted : ℕ → Bool → ℕ → List ℕ → List ℕ → ℕ × Bool → Type 0
PutsQuoted c escaped len old new r = (left : List ℕ) → (c == newline) ≡ false → (c == 0) ≡ false
    → (not escaped && (c == double_quote)) ≡ false
    → prefixed (take len old) (quoted_text escaped (c ∷ left))
    ≡ prefixed (take r.0 new) (quoted_text r.1 left)

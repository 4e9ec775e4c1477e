-- The entries of a configuration file, and its errors.
use Rattle.std.specs.Prelude.{◌≡◌, ℕ, ◌+◌, ◌<◌, ◌≤◌, ◌==◌, ◌⊎◌, Bool, true, false, List, [], ◌∷◌, ◌++◌, Option, Some, None, Result, Ok, Err, length, take, count_by}
use Rattle.git_syntax.specs.Bytes.{FreeOf, carriage_return, dot, newline}
use Rattle.git_modules.specs.declared.config_file.FileEntry.{FileEntry}
use Rattle.git_modules.specs.declared.config_file.flaw.FileError.{FileError}
use Rattle.git_modules.specs.declared.config_file.flaw.FileError.TheVariants as error
use Rattle.git_modules.specs.ConfigFileBytes.{left_at, unix_text}
use Rattle.git_modules.specs.ConfigFileFlaws.{Refusal}
use Rattle.git_modules.specs.ConfigFileItems.{Item, gap, header, setting, item_of, start_of}

-- an item, and the rest of the text from the item on
abbrev pub Turn : Type 0
Turn = List ℕ × Item

-- a text consists of these items, and then of this rest
abbrev pub AreItems : List ℕ → List Turn → List ℕ → Type 0
AreItems left [] end = left ≡ end
AreItems left (t ∷ ts) end = (¬ (left ≡ [])) × (t.0 ≡ left)
    × ((rest : List ℕ) × (item_of left ≡ Ok (t.1, rest)) × AreItems rest ts end)

-- the number of the line, counted from 1, at an offset of a text
abbrev pub line_at : List ℕ → ℕ → ℕ
line_at text at = 1 + count_by (λ c. c == newline) (take at text)

-- this is the rest of the text from an offset on
abbrev pub IsPlace : List ℕ → List ℕ → ℕ → Type 0
IsPlace text left at = (at ≤ length text) × (left_at text at ≡ left)

-- the text that a subsection adds to a section: a dot and the subsection
abbrev pub subsection_text : Option (List ℕ) → List ℕ
subsection_text None = []
subsection_text (Some subsection) = dot ∷ subsection

-- the keys below a header begin with this section and this subsection
abbrev pub SpellsStem : List ℕ → List ℕ → Option (List ℕ) → Type 0
SpellsStem stem section subsection = FreeOf dot section × (stem ≡ section ++ subsection_text subsection)

-- the entry of a setting below a header
abbrev pub IsEntry : List ℕ → List ℕ → List ℕ → List ℕ → Option (List ℕ) → FileEntry → Type 0
IsEntry text stem left key value e = SpellsStem stem e.entry.section e.entry.subsection × (e.entry.name ≡ key)
    × (e.entry.value ≡ value) × IsPlace text left e.entry.at × (e.line ≡ line_at text e.entry.at)

-- the entries of items below a header, in their order
abbrev pub AreEntries : List ℕ → List ℕ → List Turn → List FileEntry → Type 0
AreEntries text stem [] found = found ≡ []
AreEntries text stem ((left, gap) ∷ ts) found = AreEntries text stem ts found
AreEntries text stem ((left, header next) ∷ ts) found = AreEntries text next ts found
AreEntries text stem ((left, setting key value) ∷ ts) found = (e : FileEntry) × (others : List FileEntry)
    × (found ≡ e ∷ others) × IsEntry text stem left key value e × AreEntries text stem ts others

-- these are the entries of the text; those before any header have no section
abbrev pub HasFileEntries : List ℕ → List FileEntry → Type 0
HasFileEntries text found = (first : List ℕ) × (items : List Turn) × (start_of (unix_text text) ≡ Ok first)
    × AreItems first items [] × AreEntries text [] items found

-- the text can't be read from here on
abbrev pub StopsAt : List ℕ → Refusal → Type 0
StopsAt text refusal = (start_of (unix_text text) ≡ Err refusal)
    ⊎ ((first : List ℕ) × (items : List Turn) × (left : List ℕ) × (start_of (unix_text text) ≡ Ok first)
    × AreItems first items left × (item_of left ≡ Err refusal))

-- the line that Git names: that of the offset, or the next one
abbrev pub named_line : Bool → ℕ → ℕ
named_line false line = line
named_line true line = line + 1

-- the offset is between the carriage return and the line feed of a line end
abbrev pub IsInLineEnd : List ℕ → ℕ → Type 0
IsInLineEnd text at = (front : List ℕ) × (rest : List ℕ) × (text ≡ front ++ carriage_return ∷ newline ∷ rest)
    × (at ≡ length front + 1)

-- the error is that of a refusal: its reason, its offset, which is at the front of a line end, and the line that Git
-- names
abbrev pub IsErrorOf : List ℕ → Refusal → FileError → Type 0
IsErrorOf text refusal error.Memory = ⊥
IsErrorOf text refusal error.ShortBuffer = ⊥
IsErrorOf text refusal (error.Refused flaw at line) = (flaw ≡ refusal.flaw) × IsPlace text refusal.rest at
    × (¬ IsInLineEnd text at) × (line ≡ named_line refusal.is_late (line_at text at))

-- the error is that of a result that is refused
abbrev pub IsErrorAt : {A : Type 0} → List ℕ → Result A Refusal → FileError → Type 0
IsErrorAt text read e = (refusal : Refusal) × (read ≡ Err refusal) × IsErrorOf text refusal e

-- the offset after a byte order mark, or the error of an incomplete one
abbrev pub ReadsMark : List ℕ → Result ℕ FileError → Type 0
ReadsMark text (Ok at) = (at ≤ length text) × (start_of (unix_text text) ≡ Ok (left_at text at))
ReadsMark text (Err e) = IsErrorAt text (start_of (unix_text text)) e

-- the error of reading a text into a buffer of this length: the buffer is shorter than the text, an allocation
-- failed, or the text is refused at this byte and line
abbrev pub IsFileError : List ℕ → ℕ → FileError → Type 0
IsFileError text buffer error.Memory = length text ≤ buffer
IsFileError text buffer error.ShortBuffer = buffer < length text
IsFileError text buffer (error.Refused flaw at line) = (length text ≤ buffer)
    × ((refusal : Refusal) × StopsAt text refusal × IsErrorOf text refusal (error.Refused flaw at line))

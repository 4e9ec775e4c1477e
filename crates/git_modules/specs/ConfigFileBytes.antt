-- The bytes of a configuration file: those with a meaning, their classes, and a text without the carriage returns
-- that Git skips.
use Rattle.std.specs.Prelude.{ℕ, Bool, ◌&&◌, ◌||◌, ◌==◌, List, [], ◌∷◌, drop, if◌then◌else◌}
use Rattle.std.specs.Char.{is_ascii_alphanumeric}
use Rattle.git_syntax.specs.Bytes.{begins_with, newline, tab, space, hyphen, dot, carriage_return}

-- `\b`
abbrev pub backspace : ℕ
backspace = 8

-- `;`
abbrev pub semicolon : ℕ
semicolon = 59

-- a byte of a name: a letter, a digit or `-`
abbrev pub is_key_byte : ℕ → Bool
is_key_byte c = is_ascii_alphanumeric c || c == hyphen

-- a byte of a section: a byte of a name, or a dot
abbrev pub is_section_byte : ℕ → Bool
is_section_byte c = is_key_byte c || c == dot

-- white space that may follow a name
abbrev pub is_gap : ℕ → Bool
is_gap c = c == space || c == tab

-- white space within a line
abbrev pub is_blank : ℕ → Bool
is_blank c = is_gap c || c == carriage_return

-- the text without the carriage returns before line feeds
abbrev pub unix_text : List ℕ → List ℕ
unix_text [] = []
unix_text (c ∷ rest) =
    if c == carriage_return && begins_with newline rest then unix_text rest
    else c ∷ unix_text rest

-- the text that Git has left to read at an offset
abbrev pub left_at : List ℕ → ℕ → List ℕ
left_at text at = unix_text (drop at text)

-- the leading bytes that pass a test
abbrev pub word : (ℕ → Bool) → List ℕ → List ℕ
word test [] = []
word test (c ∷ rest) = if test c then c ∷ word test rest else []

-- the text after the leading bytes that pass a test
abbrev pub past_word : (ℕ → Bool) → List ℕ → List ℕ
past_word test [] = []
past_word test (c ∷ rest) = if test c then past_word test rest else c ∷ rest

-- the text after the first line
abbrev pub past_line : List ℕ → List ℕ
past_line [] = []
past_line (c ∷ rest) = if c == newline then rest else past_line rest

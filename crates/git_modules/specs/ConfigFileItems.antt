-- The items of a configuration file: white space, comments, headers and settings, one after another.
use Rattle.std.specs.Prelude.{ℕ, ◌==◌, ◌||◌, List, [], ◌∷◌, Option, Some, None, Result, Ok, Err, if◌then◌else◌}
use Rattle.std.specs.Char.{is_ascii_alphabetic}
use Rattle.git_syntax.specs.Bytes.{newline, number_sign, equals_sign, left_bracket, lowercase}
use Rattle.git_modules.specs.declared.config_file.flaw.Flaw.TheVariants.{PartialMark, NoStart, NoEquals}
use Rattle.git_modules.specs.ConfigFileBytes.{semicolon, is_blank, is_gap, is_key_byte, word, past_word, past_line}
use Rattle.git_modules.specs.ConfigFileFlaws.{Read, Refusal, refused, refused_late}
use Rattle.git_modules.specs.ConfigFileValues.{value_of}
use Rattle.git_modules.specs.ConfigFileHeaders.{header_of}

-- an item
pub data Item : Type 0 where
  gap : Item
  header : List ℕ → Item
  setting : List ℕ → Option (List ℕ) → Item

-- an item and the text after it, or an error
abbrev pub ItemRead : Type 0
ItemRead = Result (Item × List ℕ) Refusal

-- a result as a header
abbrev pub as_header : Read → ItemRead
as_header (Ok p) = Ok (header p.0, p.1)
as_header (Err e) = Err e

-- a result as the value of a setting of this name
abbrev pub as_setting : List ℕ → Read → ItemRead
as_setting key (Ok p) = Ok (setting key (Some p.0), p.1)
as_setting key (Err e) = Err e

-- the part of a setting after its name: the end of the line, or `=` and its value
abbrev pub after_name : List ℕ → List ℕ → ItemRead
after_name key [] = Ok (setting key None, [])
after_name key (c ∷ rest) =
    if c == newline then Ok (setting key None, rest)
    else if c == equals_sign then as_setting key (value_of rest)
    else refused NoEquals (c ∷ rest)

-- a setting: its name in lower case, and its value if it has one
abbrev pub setting_of : List ℕ → ItemRead
setting_of text = after_name (lowercase (word is_key_byte text))
    (past_word is_gap (past_word is_key_byte text))

-- the item at the front of a text
abbrev pub item_of : List ℕ → ItemRead
item_of [] = Ok (gap, [])
item_of (c ∷ rest) =
    if is_blank c || c == newline then Ok (gap, rest)
    else if c == number_sign || c == semicolon then Ok (gap, past_line rest)
    else if c == left_bracket then as_header (header_of rest)
    else if is_ascii_alphabetic c then setting_of (c ∷ rest)
    else refused NoStart (c ∷ rest)

-- the text after the third byte of a byte order mark; the given text is that after its second byte
abbrev pub mark_end : List ℕ → Result (List ℕ) Refusal
mark_end [] = refused_late PartialMark []
mark_end (c ∷ rest) =
    if c == 0xbf then Ok rest
    else if c == newline then refused_late PartialMark (c ∷ rest)
    else refused PartialMark (c ∷ rest)

-- the text after a byte order mark; the given text is that after its first byte
abbrev pub mark_rest : List ℕ → Result (List ℕ) Refusal
mark_rest [] = refused_late PartialMark []
mark_rest (c ∷ rest) =
    if c == 0xbb then mark_end rest
    else if c == newline then refused_late PartialMark (c ∷ rest)
    else refused PartialMark (c ∷ rest)

-- the text after its byte order mark, if it has one
abbrev pub start_of : List ℕ → Result (List ℕ) Refusal
start_of [] = Ok []
start_of (c ∷ rest) = if c == 0xef then mark_rest rest else Ok (c ∷ rest)

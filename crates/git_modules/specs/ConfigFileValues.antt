-- Values: the meaning of their bytes. A value is read from left to right, in one of five modes.
use Rattle.std.specs.Prelude.{ℕ, ◌+◌, Bool, true, false, ◌||◌, ◌==◌, List, [], ◌∷◌, ◌++◌, Ok, if◌then◌else◌}
use Rattle.std.specs.Prelude.{replicate}
use Rattle.git_syntax.specs.Bytes.{newline, tab, space, number_sign, backslash}
use Rattle.git_modules.specs.declared.config_file.flaw.Flaw.TheVariants.{OpenQuote, BadEscape, ZeroByte}
use Rattle.git_modules.specs.declared.config_file.value.Mode.{Mode}
use Rattle.git_modules.specs.declared.config_file.value.Mode.TheVariants.{Plain, Quoted, Escape, QuotedEscape, Comment}
use Rattle.git_modules.specs.declared.config_file.value.Part.{Part}
use Rattle.git_modules.specs.declared.config_file.value.Part.TheVariants as part
use Rattle.git_modules.specs.ConfigFileBytes.{backspace, semicolon, is_blank}
use Rattle.git_modules.specs.ConfigFileFlaws.{Read, refused, refused_late, prefixed}
use Rattle.git_rules.specs.CommandLines.{double_quote}

-- a byte outside quotes: white space, a comment, a quote or an escape, or any other byte, which is literal
abbrev pub plain_part : ℕ → Part
plain_part c =
    if c == newline then part.End
    else if is_blank c then part.Blank
    else if c == number_sign || c == semicolon then part.Nothing
    else if c == double_quote then part.Mark Quoted
    else if c == backslash then part.Mark Escape
    else if c == 0 then part.Flaw ZeroByte
    else part.Byte c Plain

-- a byte within quotes: the closing quote or an escape, or any other byte, which is literal
abbrev pub quoted_part : ℕ → Part
quoted_part c =
    if c == newline then part.Flaw OpenQuote
    else if c == double_quote then part.Mark Plain
    else if c == backslash then part.Mark QuotedEscape
    else if c == 0 then part.Flaw ZeroByte
    else part.Byte c Quoted

-- a byte after a `\`: the end of a continued line, `\t`, `\b`, `\n`, `\\` and `\"`
abbrev pub escaped_part : ℕ → Mode → Part
escaped_part c mode =
    if c == newline then part.Mark mode
    else if c == 116 then part.Byte tab mode
    else if c == 98 then part.Byte backspace mode
    else if c == 110 then part.Byte newline mode
    else if c == backslash || c == double_quote then part.Byte c mode
    else part.Flaw BadEscape

-- the meaning of a byte
abbrev pub part_of : Mode → ℕ → Part
part_of Plain c = plain_part c
part_of Quoted c = quoted_part c
part_of Escape c = escaped_part c Plain
part_of QuotedEscape c = escaped_part c Quoted
part_of Comment c = if c == newline then part.End else part.Nothing

-- the result at the end of the text: as at the end of a line, except that Git counts one more line after a `\` in
-- quotes
abbrev pub value_end : Mode → Read
value_end Plain = Ok ([], [])
value_end Quoted = refused OpenQuote []
value_end Escape = Ok ([], [])
value_end QuotedEscape = refused_late OpenQuote []
value_end Comment = Ok ([], [])

-- a number of spaces
abbrev pub spaces : ℕ → List ℕ
spaces n = replicate n space

-- the rest of the value that a text spells, in a mode. White space outside quotes is skipped until the value has a
-- byte; later it counts as equally many spaces if another byte follows it
abbrev pub value_text : Mode → Bool → ℕ → List ℕ → Read
value_text mode has_byte blanks [] = value_end mode
value_text mode has_byte blanks (c ∷ rest) = elim (part_of mode c) as (λ _. Read) [
  | part.End ↦ Ok ([], rest)
  | part.Flaw flaw ↦ refused flaw (c ∷ rest)
  | part.Blank ↦ value_text mode has_byte (if has_byte then blanks + 1 else 0) rest
  | part.Nothing ↦ value_text Comment has_byte blanks rest
  | part.Mark next ↦ prefixed (spaces blanks) (value_text next has_byte 0 rest)
  | part.Byte b next ↦ prefixed (spaces blanks ++ b ∷ []) (value_text next true 0 rest)
]

-- the value after an `=`, and the text after its last line
abbrev pub value_of : List ℕ → Read
value_of text = value_text Plain false 0 text

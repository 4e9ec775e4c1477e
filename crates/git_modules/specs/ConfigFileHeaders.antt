-- Headers: `[section]`, `[section "subsection"]` and the old form `[section.subsection]`.
use Rattle.std.specs.Prelude.{ℕ, Bool, true, false, ◌==◌, List, [], ◌∷◌, ◌++◌, Ok, Err, if◌then◌else◌}
use Rattle.git_syntax.specs.Bytes.{newline, dot, right_bracket, backslash, lowercase}
use Rattle.git_modules.specs.declared.config_file.flaw.Flaw.TheVariants.{NoSection, BadSection, NoQuote, OpenSubsection, OpenHeader, ZeroByte}
use Rattle.git_modules.specs.ConfigFileBytes.{is_blank, is_section_byte, word, past_word}
use Rattle.git_modules.specs.ConfigFileFlaws.{Read, refused, refused_late, prefixed}
use Rattle.git_rules.specs.CommandLines.{double_quote}

-- a subsection up to its closing quote, and the text after that; a `\` makes the next byte literal
abbrev pub quoted_text : Bool → List ℕ → Read
quoted_text escaped [] = refused OpenSubsection []
quoted_text escaped (c ∷ rest) =
    if c == newline then refused OpenSubsection (c ∷ rest)
    else if c == 0 then refused ZeroByte (c ∷ rest)
    else if escaped then prefixed (c ∷ []) (quoted_text false rest)
    else if c == double_quote then Ok ([], rest)
    else if c == backslash then quoted_text true rest
    else prefixed (c ∷ []) (quoted_text false rest)

-- the `]` after a subsection
abbrev pub header_end : List ℕ → List ℕ → Read
header_end stem [] = refused_late OpenHeader []
header_end stem (c ∷ rest) =
    if c == right_bracket then Ok (stem, rest)
    else if c == newline then refused_late OpenHeader (c ∷ rest)
    else refused OpenHeader (c ∷ rest)

-- the result up to the closing quote, and the `]` after it
abbrev pub ended : Read → Read
ended (Ok p) = header_end p.0 p.1
ended (Err e) = Err e

-- the subsection of a header after its section and white space
abbrev pub subsection_of : List ℕ → List ℕ → Read
subsection_of section [] = refused NoQuote []
subsection_of section (c ∷ rest) =
    if c == double_quote then ended (prefixed (section ++ dot ∷ []) (quoted_text false rest))
    else refused NoQuote (c ∷ rest)

-- the part of a header after the `[` and the section
abbrev pub after_section : List ℕ → List ℕ → Read
after_section section [] = refused_late BadSection []
after_section [] (c ∷ rest) =
    if c == right_bracket then refused NoSection (c ∷ rest)
    else if c == newline then refused NoQuote (c ∷ rest)
    else if is_blank c then subsection_of [] (past_word is_blank rest)
    else refused BadSection (c ∷ rest)
after_section (b ∷ bs) (c ∷ rest) =
    if c == right_bracket then Ok (b ∷ bs, rest)
    else if c == newline then refused NoQuote (c ∷ rest)
    else if is_blank c then subsection_of (b ∷ bs) (past_word is_blank rest)
    else refused BadSection (c ∷ rest)

-- the prefix of the keys below a header: its section in lower case, and a dot and its subsection if it has one; and
-- the text after the header. The given text is that after the `[`
abbrev pub header_of : List ℕ → Read
header_of text = after_section (lowercase (word is_section_byte text)) (past_word is_section_byte text)

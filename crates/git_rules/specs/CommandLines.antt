-- How Git splits a command line into words (`split_cmdline` in `alias.c` of Git 2.39.5), and the name of a program
-- (`basename` of POSIX).
use Rattle.std.specs.Prelude.{ℕ, Bool, not, ◌==◌, List, [], ◌∷◌, Option, Some, None, option_map, reverse, if◌then◌else◌}
use Rattle.std.specs.List.{take_while}
use Rattle.git_syntax.specs.Bytes.{tab, newline, space, slash, backslash, is_one_of, carriage_return}
use Rattle.git_rules.specs.ShellWords.{single_quote}

-- `"`
abbrev pub double_quote : ℕ
double_quote = 34

-- the byte separates two words, outside of quotes
abbrev pub is_gap : ℕ → Bool
is_gap b = is_one_of (tab ∷ newline ∷ carriage_return ∷ space ∷ []) b

-- the state of Git in a command line: between words, in a word outside of quotes, in single or double quotes, or
-- after a backslash outside of quotes or in double ones
pub data Spot : Type 0 where
  between : Spot
  bare : Spot
  single : Spot
  double : Spot
  escaped : Spot
  escaped_in_double : Spot

-- the words of a command line, at least one: the first and the others
pub record LineWords : Type 0 where
  pub first : List ℕ
  pub others : List (List ℕ)

-- one empty word
abbrev pub empty_word : LineWords
empty_word = record { first = []; others = [] }

-- the words, with the byte before the first
abbrev pub with_byte : ℕ → Option LineWords → Option LineWords
with_byte b words = option_map (λ w. record { first = b ∷ w.first; others = w.others }) words

-- the words, after one that ends here
abbrev pub after_end : Option LineWords → Option LineWords
after_end words = option_map (λ w. record { first = []; others = w.first ∷ w.others }) words

-- a byte of a word outside of quotes: a quote opens, `\` escapes the next byte, and any other byte is literal
abbrev pub in_bare : ℕ → (Spot → Option LineWords) → Option LineWords
in_bare b rest =
    if b == single_quote then rest single
    else (if b == double_quote then rest double
    else (if b == backslash then rest escaped else with_byte b (rest bare)))

-- the words of the rest of a command line, read from this spot; the first of them is the rest of the word at the
-- spot. None if a quote isn't closed or a `\` is the last byte
abbrev pub line_words_from : Spot → List ℕ → Option LineWords
line_words_from between [] = Some empty_word
line_words_from bare [] = Some empty_word
line_words_from single [] = None
line_words_from double [] = None
line_words_from escaped [] = None
line_words_from escaped_in_double [] = None
line_words_from between (b ∷ bs) =
    if is_gap b then line_words_from between bs else in_bare b (λ spot. line_words_from spot bs)
line_words_from bare (b ∷ bs) =
    if is_gap b then after_end (line_words_from between bs) else in_bare b (λ spot. line_words_from spot bs)
line_words_from single (b ∷ bs) =
    if b == single_quote then line_words_from bare bs else with_byte b (line_words_from single bs)
line_words_from double (b ∷ bs) =
    if b == double_quote then line_words_from bare bs
    else (if b == backslash then line_words_from escaped_in_double bs
    else with_byte b (line_words_from double bs))
line_words_from escaped (b ∷ bs) = with_byte b (line_words_from bare bs)
line_words_from escaped_in_double (b ∷ bs) = with_byte b (line_words_from double bs)

-- the first word of a command line, empty if white space begins the line; none if Git can't split the line
abbrev pub first_word : List ℕ → Option (List ℕ)
first_word line = option_map (λ w. w.first) (line_words_from bare line)

-- the byte isn't a slash
abbrev pub is_no_slash : ℕ → Bool
is_no_slash b = not (b == slash)

-- the last name of a path, both from their last byte to their first: slashes at the end of the path are skipped,
-- and the name extends to the next one
abbrev pub name_back : List ℕ → List ℕ
name_back [] = []
name_back (b ∷ bs) = if b == slash then name_back bs else b ∷ take_while is_no_slash bs

-- the last name of a path; empty if the path is empty or all slashes, for which `basename` returns `.` and `/`
abbrev pub base_name : List ℕ → List ℕ
base_name path = reverse (name_back (reverse path))

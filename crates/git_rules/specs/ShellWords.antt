-- How a shell splits a text into words (POSIX, Shell Command Language, 2.2 and 2.3) if nothing is expanded; and a
-- text in Git's single quotes.
use Rattle.std.specs.Prelude.{ℕ, Bool, ◌||◌, ◌==◌, List, [], ◌∷◌, ◌++◌, codes, Option, Some, None, flat_map, if◌then◌else◌}
use Rattle.git_syntax.specs.Bytes.{tab, newline, space, backslash, is_one_of}

-- `'`
abbrev pub single_quote : ℕ
single_quote = 39

-- `!`
abbrev pub exclamation_mark : ℕ
exclamation_mark = 33

-- ---- reading

-- the state of a shell: between words, in a word outside of quotes, in single quotes, or after a backslash
pub data Place : Type 0 where
  between : Place
  bare : Place
  quoted : Place
  escaped : Place

-- outside of quotes the byte may be special: an operator, a quote, or something to expand
abbrev pub is_shell_special : ℕ → Bool
is_shell_special b = b == 0 || (b == tab || (b == newline || is_one_of (codes "|&;<>()$`\"*?[#~=%!{}") b))

-- the words, with the byte before the first
abbrev pub prepended : ℕ → Option (List (List ℕ)) → Option (List (List ℕ))
prepended b None = None
prepended b (Some []) = None
prepended b (Some (word ∷ words)) = Some ((b ∷ word) ∷ words)

-- the words, after one that ends here
abbrev pub past_end : Option (List (List ℕ)) → Option (List (List ℕ))
past_end None = None
past_end (Some words) = Some ([] ∷ words)

-- a byte in a word, outside of quotes: `'` opens quotes, `\` escapes the next byte, and any other byte that isn't
-- special is literal
abbrev pub in_word : ℕ → (Place → Option (List (List ℕ))) → Option (List (List ℕ))
in_word b rest =
    if b == single_quote then rest quoted
    else (if b == backslash then rest escaped
    else (if is_shell_special b then None else prepended b (rest bare)))

-- the words of the rest of a text, read from this state; in a word, the first of them is the rest of that word.
-- None if a quote isn't closed, a `\` is the last byte or precedes the end of a line, or a byte is special
abbrev pub words_from : Place → List ℕ → Option (List (List ℕ))
words_from between [] = Some []
words_from bare [] = Some ([] ∷ [])
words_from quoted [] = None
words_from escaped [] = None
words_from between (b ∷ bs) =
    if b == space then words_from between bs else in_word b (λ place. words_from place bs)
words_from bare (b ∷ bs) =
    if b == space then past_end (words_from between bs) else in_word b (λ place. words_from place bs)
words_from quoted (b ∷ bs) =
    if b == single_quote then words_from bare bs else prepended b (words_from quoted bs)
words_from escaped (b ∷ bs) = if b == newline then None else prepended b (words_from bare bs)

-- the words of a text, as a shell reads them
abbrev pub shell_words : List ℕ → Option (List (List ℕ))
shell_words text = words_from between text

-- ---- writing

-- the byte is written outside of the quotes, after a `\`
abbrev pub is_unquoted : ℕ → Bool
is_unquoted b = b == single_quote || b == exclamation_mark

-- a byte of a quoted text
abbrev pub quoted_byte : ℕ → List ℕ
quoted_byte b = if is_unquoted b then single_quote ∷ backslash ∷ b ∷ single_quote ∷ [] else b ∷ []

-- the text in Git's single quotes
abbrev pub sq_quote : List ℕ → List ℕ
sq_quote text = single_quote ∷ (flat_map quoted_byte text ++ single_quote ∷ [])

-- Texts cut around a mark, and comparisons with lists of words.
use Rattle.std.specs.Prelude.{ℕ, ◌+◌, ◌==◌, Bool, true, false, bytes_eq, List, [], ◌∷◌, length, take, drop, Option, Some, None, option_map}
use Rattle.std.specs.List.{ends_with, list_any}
use Rattle.std.specs.Option.{is_some, unwrap_or}
use Rattle.bstr.specs.Find.{first_of, matches, rmatches}
use Rattle.git_syntax.specs.Bytes.{lowercase}
use Rattle.git_audit.specs.Dangers.{has_front}

-- ---- marks

-- the texts before and after a mark at this offset, if there is one
abbrev pub around : List ℕ → List ℕ → Option ℕ → Option (List ℕ × List ℕ)
around mark text place = option_map (λ k. (take k text, drop (k + length mark) text)) place

-- the texts before and after the first such mark, if there is one
abbrev pub halves : List ℕ → List ℕ → Option (List ℕ × List ℕ)
halves mark text = around mark text (first_of (matches text mark 0))

-- the texts before and after the last such mark, if there is one
abbrev pub last_halves : List ℕ → List ℕ → Option (List ℕ × List ℕ)
last_halves mark text = around mark text (first_of (rmatches text mark (length text)))

-- there is such a mark, and the texts before and after it pass the test
abbrev pub passes : (List ℕ → List ℕ → Bool) → Option (List ℕ × List ℕ) → Bool
passes test None = false
passes test (Some halves) = test halves.0 halves.1

-- the text is present, and passes the test
abbrev pub some_passes : (List ℕ → Bool) → Option (List ℕ) → Bool
some_passes test None = false
some_passes test (Some text) = test text

-- the text contains such a mark
abbrev pub holds : List ℕ → List ℕ → Bool
holds mark text = is_some (halves mark text)

-- the text before the first such mark, or the whole text if there is none
abbrev pub before : List ℕ → List ℕ → List ℕ
before mark text = unwrap_or (option_map (λ p. p.0) (halves mark text)) text

-- the text after the last such mark, or the whole text if there is none
abbrev pub suffix : List ℕ → List ℕ → List ℕ
suffix mark text = unwrap_or (option_map (λ p. p.1) (last_halves mark text)) text

-- the text ends with this
abbrev pub has_end : List ℕ → List ℕ → Bool
has_end text end = ends_with (λ a b. a == b) text end

-- the text is empty
abbrev pub is_empty : List ℕ → Bool
is_empty [] = true
is_empty (b ∷ bs) = false

-- ---- words

-- the text is the word
abbrev pub is_word : List ℕ → List ℕ → Bool
is_word text word = bytes_eq text word

-- the text is one of these
abbrev pub is_among : List (List ℕ) → List ℕ → Bool
is_among words text = list_any (is_word text) words

-- the text is the word, ignoring the case of ASCII letters
abbrev pub is_word_in_any_case : List ℕ → List ℕ → Bool
is_word_in_any_case text word = bytes_eq (lowercase text) (lowercase word)

-- the text is one of these, ignoring the case of ASCII letters
abbrev pub is_among_in_any_case : List (List ℕ) → List ℕ → Bool
is_among_in_any_case words text = list_any (is_word_in_any_case text) words

-- the text begins with one of these
abbrev pub begins_with_some : List (List ℕ) → List ℕ → Bool
begins_with_some fronts text = list_any (has_front text) fronts

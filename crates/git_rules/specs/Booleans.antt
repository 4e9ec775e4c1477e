-- Texts that Git reads as boolean values, including numbers.
use Rattle.std.specs.Prelude.{ℕ, Bool, true, false, not, ◌||◌, ◌==◌, codes, List, [], Option, Some, if◌then◌else◌}
use Rattle.std.specs.Option.{option_map}
use Rattle.git_rules.specs.Words.{is_word}
use Rattle.git_rules.specs.Numbers.{greatest_int, number_of}

-- the words for true
abbrev pub is_yes : List ℕ → Bool
is_yes text = is_word text (codes "true") || (is_word text (codes "yes") || is_word text (codes "on"))

-- the words for false, including the empty text
abbrev pub is_no : List ℕ → Bool
is_no text = is_word text []
    || (is_word text (codes "false") || (is_word text (codes "no") || is_word text (codes "off")))

-- the boolean value of the text: a word, or a number, which is false if it is 0
abbrev pub boolean_of : List ℕ → Option Bool
boolean_of text = if is_yes text then Some true
    else (if is_no text then Some false else option_map (λ n. not (n == 0)) (number_of greatest_int text))

-- Words that a shell takes literally.
use Rattle.std.specs.Prelude.{ℕ, Bool, false, ◌||◌, ◌==◌, codes, List, [], ◌∷◌}
use Rattle.std.specs.List.{list_all, list_any}
use Rattle.std.specs.Char.{is_ascii_alphanumeric}

-- marks that a shell takes literally in each word except the first
abbrev pub plain_marks : List ℕ
plain_marks = codes "%+,-./:=@_"

-- a letter, a digit or one of the marks
abbrev pub is_plain_byte : ℕ → Bool
is_plain_byte b = is_ascii_alphanumeric b || list_any (λ mark. mark == b) plain_marks

-- each byte is a letter, a digit or one of the marks
abbrev pub are_plain : List ℕ → Bool
are_plain bytes = list_all is_plain_byte bytes

-- the word isn't empty, and each of its bytes is a letter, a digit or one of the marks
abbrev pub is_plain : List ℕ → Bool
is_plain [] = false
is_plain (b ∷ bs) = are_plain (b ∷ bs)

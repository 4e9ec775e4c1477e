-- Words, labels of hosts and users in the conditions of hints.
use Rattle.std.specs.Prelude.{ℕ, Bool, false, ◌&&◌, ◌||◌, ◌==◌, List, [], ◌∷◌}
use Rattle.std.specs.List.{list_all}
use Rattle.std.specs.Char.{is_ascii_alphanumeric}

-- a letter, a digit or `-`
abbrev pub is_label_byte : ℕ → Bool
is_label_byte b = is_ascii_alphanumeric b || b == 45

-- a letter, a digit, `-` or `_`
abbrev pub is_word_byte : ℕ → Bool
is_word_byte b = is_label_byte b || b == 95

-- a letter, a digit, `-`, `_` or `.`
abbrev pub is_user_byte : ℕ → Bool
is_user_byte b = is_word_byte b || b == 46

-- a label of a host: at least one letter, digit or `-`
abbrev pub is_label : List ℕ → Bool
is_label [] = false
is_label (b ∷ bs) = is_label_byte b && list_all is_label_byte bs

-- a user without unusual characters: at least one letter, digit, `-`, `_` or `.`
abbrev pub is_user : List ℕ → Bool
is_user [] = false
is_user (b ∷ bs) = is_user_byte b && list_all is_user_byte bs

-- a word that may name a remote: at least one letter, digit, `-` or `_`, and it doesn't begin with `-`
abbrev pub is_remote_name : List ℕ → Bool
is_remote_name [] = false
is_remote_name (b ∷ bs) = (is_ascii_alphanumeric b || b == 95) && list_all is_word_byte bs

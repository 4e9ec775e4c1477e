-- The law on tokens: each word that begins as a token and is as long as one is in a hidden piece.
use Rattle.std.specs.Prelude.{◌≡◌, ◌≤◌, ◌⊎◌, ℕ, ◌+◌, true, List, [], ◌∷◌, ◌++◌, length}
use Rattle.std.specs.List.{list_all}
use Rattle.git_syntax.specs.Bytes.{begins_by}
use Rattle.git_secrets.specs.Tokens.{is_gap, is_token_byte, is_token_word}
use Rattle.git_secrets.specs.declared.Secret.{Secret}
use Rattle.git_secrets.specs.Secrets.{Part, hidden, joined, parts_of}

-- the text is empty, or begins with a byte that no token contains
abbrev pub BeginsApart : List ℕ → Type 0
BeginsApart text = (text ≡ []) ⊎ (begins_by is_gap text ≡ true)

-- the text is empty, or ends with such a byte
abbrev pub EndsApart : List ℕ → Type 0
EndsApart text = (text ≡ []) ⊎ ((front : List ℕ) × (b : ℕ) × (text ≡ front ++ b ∷ []) × (is_gap b ≡ true))

-- so many bytes of the text from an index lie in a hidden piece
abbrev pub LiesInHidden : List ℕ → ℕ → ℕ → Type 0
LiesInHidden text at len = (fronts : List Part) × (kind : Secret) × (bytes : List ℕ) × (rest : List Part)
    × (parts_of text ≡ fronts ++ hidden kind bytes ∷ rest)
    × (length (joined fronts) ≤ at) × (at + len ≤ length (joined fronts) + length bytes)

-- each word that begins as a token and is as long as one lies in a hidden piece
abbrev pub HidesTokens : Type 0
HidesTokens = (front word rest : List ℕ) → is_token_word word ≡ true → list_all is_token_byte word ≡ true
    → EndsApart front → BeginsApart rest → LiesInHidden (front ++ (word ++ rest)) (length front) (length word)

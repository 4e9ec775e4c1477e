-- Decoding one byte or one block of bytes at a time.
use Rattle.std.specs.Prelude.{◌≡◌, ℕ, true, false, List, [], ◌∷◌, ◌++◌, replicate, Option, MatchOption}
use Rattle.std.specs.Borrow.{Bor}
use Rattle.std.specs.Char.{digit_value}
use Rattle.percent_encoding.specs.Percent.{percent_decode}
use Rattle.git_syntax.specs.Bytes.{is_hexadecimal}

-- the value of the byte as a hexadecimal digit, or `None` if it isn't one
abbrev pub IsDigit : ℕ → Option ℕ → Type 0
IsDigit byte result = MatchOption result (is_hexadecimal byte ≡ false)
    (λ value. (is_hexadecimal byte ≡ true) × (value ≡ digit_value byte))

-- the first byte of the decoding, and the text whose decoding is the rest; `None` if the text is empty
abbrev pub SplitsDecoded : List ℕ → Option (ℕ × Bor (List ℕ)) → Type 0
SplitsDecoded text result = MatchOption result (text ≡ [])
    (λ parts. percent_decode text ≡ parts.0 ∷ percent_decode parts.1.now)

-- the byte of the escape that a text begins with, and the text after it; `None` if its first byte decodes to itself
abbrev pub SplitsEscape : List ℕ → Option (ℕ × Bor (List ℕ)) → Type 0
SplitsEscape text result = MatchOption result
    ((b : ℕ) (suffix : List ℕ) → text ≡ b ∷ suffix → percent_decode text ≡ b ∷ percent_decode suffix)
    (λ parts. percent_decode text ≡ parts.0 ∷ percent_decode parts.1.now)

-- the block is the front of the decoding, or all of it and zeros. The other text decodes to the rest
abbrev pub PadsBlock : List ℕ → List ℕ → List ℕ → Type 0
PadsBlock text block suffix = (zeros : ℕ)
    × (percent_decode text ++ replicate zeros 0 ≡ block ++ percent_decode suffix)

-- A name has a byte.
use Rattle.std.proofs.Common.{◌≡◌, ℕ, zero, suc, ◌<◌, Bool, true, false, List, [], ◌∷◌, cond, take, arith}
use Rattle.git_syntax.specs.Bytes.{begins_by, lowercase}
use Rattle.git_modules.specs.ConfigFileBytes.{is_key_byte, word}

-- a text that isn't empty takes a byte
not_nothing : (b : Bool) (c : ℕ) (rest : List ℕ) → b ≡ true → [] ≡ lowercase (cond b (c ∷ rest) []) → ⊥
not_nothing true c rest e h = cc
not_nothing false c rest e h = cc

-- the word of a text that begins with one of its bytes has a byte
pub word_some : (n : ℕ) (buffer left : List ℕ) → take n buffer ≡ lowercase (word is_key_byte left) → begins_by is_key_byte left ≡ true → 0 < n
word_some zero buffer [] e b = cc
word_some zero buffer (c ∷ rest) e b = absurd (not_nothing (is_key_byte c) c (word is_key_byte rest) b e)
word_some (suc n) buffer left e b = omega arith

-- Masks: numbers with a bit for each byte of a text, and texts with their masks.
use Rattle.std.specs.Prelude.{◌≡◌, ◌↔◌, ℕ, ◌<◌, ◌≤◌, Bool, true, ◌||◌, ◌==◌, List, length, map, slice_index}
use Rattle.std.specs.Borrow.{Bor}
use Rattle.std.specs.Char.{is_ascii_alphabetic}
use Rattle.std.specs.Int.{bit_at, is_in_range}
use Rattle.std.specs.List.{list_all}
use Rattle.std.specs.Simd.Lanes.{mask_l}
use Rattle.git_syntax.specs.declared.masks.Masks.{Masks}
use Rattle.git_syntax.specs.declared.masks.marked.Marked.{Marked}
use Rattle.git_syntax.specs.Bytes.{colon, plus_sign, slash, at_sign, tilde}
use Rattle.git_syntax.specs.Internal.HostPieces.{is_simple_byte}

-- the mask of a class in a text: bit i is set exactly if byte i passes the test, and bits after the text are not
abbrev pub mask_of : (ℕ → Bool) → List ℕ → ℕ
mask_of test text = mask_l (map test text)

-- bit i of the mask is set exactly if byte i of the text passes the test
abbrev pub HasBit : (ℕ → Bool) → List ℕ → ℕ → Type 0
HasBit test text i = (bit_at (mask_of test text) i ≡ 1) ↔ ((i < length text) × (test (slice_index text i) ≡ true))

-- a letter, a digit, or one of `+`, `,`, `-`, `.`, `/`, `:`, `@`, `_` and `~`
abbrev pub is_common_byte : ℕ → Bool
is_common_byte b = is_ascii_alphabetic b || (is_in_range plus_sign colon b || (b == at_sign || (b == 95 || b == tilde)))

-- each byte of the text is one of those
abbrev pub is_common : List ℕ → Bool
is_common text = list_all is_common_byte text

-- these are the masks of the text, which has at most 64 bytes
pub record AreMasksOf (text : List ℕ) (masks : Masks) : Type 0 where
  pub short : length text ≤ 64
  pub colon : masks.colon ≡ mask_of (λ b. b == colon) text
  pub slash : masks.slash ≡ mask_of (λ b. b == slash) text
  pub at : masks.at ≡ mask_of (λ b. b == at_sign) text
  pub host : masks.host ≡ mask_of is_simple_byte text

-- the masks are those of the text
abbrev pub IsMarked : Marked → Type 0
IsMarked it = AreMasksOf it.text.now it.masks

-- the pieces without their masks
abbrev pub texts_of : Marked × Marked → Bor (List ℕ) × Bor (List ℕ)
texts_of pieces = (pieces.0.text, pieces.1.text)

-- The bits of a mask, and the facts about a text that follow from them: the first and the last byte of a
-- class, and whether all bytes or none are of it.
use Rattle.std.proofs.Common.{◌≡◌, ℕ, zero, suc, ◌+◌, ◌-◌, ◌*◌, ◌/◌, ◌^◌, ◌<◌, ◌≤◌, Bool, true, false, cond, ◌&&◌, ◌||◌, List, [], ◌∷◌, map, length, get_or, Some, None, refl, sym, ap, ◌∙◌, subst, arith, lt_of_lt_of_le, pow_mono, pow_pos, pow-suc}
use Rattle.std.specs.Int.{bit_at}
use Rattle.std.specs.List.{list_any, list_all}
use Rattle.std.proofs.lemmas.Bool.{and_parts, or_parts}
use Rattle.std.proofs.lemmas.List.{length-map}
use Rattle.std.proofs.lemmas.Nat.{leading_top}
use Rattle.std.proofs.lemmas.Nat.Bits.{bit_at-zero, bit_at-trailing_zeros, bit_at_above}
use Rattle.std.proofs.lemmas.Simd.{mask_l-lt, bit_mask_l}
use Rattle.memchr.specs.Find.{IsFirst, IsFirstByte, IsLastByte, Passes}
use Rattle.git_syntax.specs.Bytes.{Lacks}
use Rattle.git_syntax.specs.Internal.Masks.{mask_of, HasBit}
use lib.Count.{count_trailing_zeros, count_leading_zeros}
use lib.Pow.{shr_lt, shr_mono, shl-shr}
use mir.Syntax.{Width}
use mir.Val.{bits}

-- a mask has no bit after the text
pub mask-lt : (test : ℕ → Bool) (text : List ℕ) → mask_of test text < 2 ^ length text
mask-lt test text = subst (λ n. mask_of test text < 2 ^ n) (length-map text test) (mask_l-lt (map test text))

-- a mask of a short text has few bits
pub mask_fits : (size : ℕ) (test : ℕ → Bool) (text : List ℕ) → length text ≤ size → mask_of test text < 2 ^ size
mask_fits size test text short = lt_of_lt_of_le (mask-lt test text) (pow_mono short)

-- ---- bits

of_one : (b : Bool) → cond {A = ℕ} b 1 0 ≡ 1 → b ≡ true
of_one true e = refl
of_one false e = absurd (omega arith)

place_passes : (test : ℕ → Bool) (text : List ℕ) (i : ℕ) → get_or (map test text) i false ≡ true → (i < length text) × (test (get_or text i 0) ≡ true)
place_passes test [] i e = absurd cc
place_passes test (b ∷ text) zero e = (omega arith, e)
place_passes test (b ∷ text) (suc i) e = let rest = place_passes test text i e in (omega (arith, rest.0), rest.1)

passes_place : (test : ℕ → Bool) (text : List ℕ) (i : ℕ) → i < length text → test (get_or text i 0) ≡ true → get_or (map test text) i false ≡ true
passes_place test [] i lt e = absurd (omega arith)
passes_place test (b ∷ text) zero lt e = e
passes_place test (b ∷ text) (suc i) lt e = passes_place test text i (omega arith) e

-- a bit is set exactly if a byte of the class is
pub has_bit : (test : ℕ → Bool) (text : List ℕ) (i : ℕ) → HasBit test text i
has_bit test text i = (
  λ e. place_passes test text i (of_one _ (sym (bit_mask_l (map test text) i) ∙ e)),
  λ p. bit_mask_l (map test text) i ∙ ap (λ b. cond b 1 0) (passes_place test text i p.0 p.1),
)

-- ---- the first byte and the last of a class

-- no bit is set: nothing that sets a bit is anywhere
pub nowhere_set : (P : ℕ → Type 0) (m high : ℕ) → ((k : ℕ) → P k → bit_at m k ≡ 1) → m ≡ 0 → IsFirst P 0 high None
nowhere_set P m high sets e k low lt holds =
    let set : bit_at m k ≡ 1 = sets k holds in
    let unset : bit_at m k ≡ 0 = ap (λ n. bit_at n k) e ∙ bit_at-zero k in
    omega arith

-- the lowest bit is that of the first place
pub lowest_first : (w : Width) (P : ℕ → Type 0) (m high : ℕ) → ((k : ℕ) → P k → bit_at m k ≡ 1) → ((k : ℕ) → bit_at m k ≡ 1 → (k < high) × P k) → m < 2 ^ bits w → 0 < m → IsFirst P 0 high (Some (count_trailing_zeros (bits w) m))
lowest_first w P m high sets is_set fits some =
    let lowest = bit_at-trailing_zeros w m some fits in
    let found = is_set (count_trailing_zeros (bits w) m) lowest.1 in (
      record {
        low = omega arith;
        high = found.0;
        before = λ k low lt holds. let set = sets k holds in let unset = lowest.2 k lt in omega arith;
      },
      found.1,
    )

-- no byte is of the class
pub none_set : (test : ℕ → Bool) (text : List ℕ) → mask_of test text ≡ 0 → IsFirstByte test text None
none_set test text e k low lt passes = nowhere_set (λ i. (i < length text) × Passes test text i) (mask_of test text) (length text) (λ i p. (has_bit test text i).1 p) e k low lt (lt, passes)

-- the lowest bit is that of the first
pub first_set : (w : Width) (test : ℕ → Bool) (text : List ℕ) → length text ≤ bits w → 0 < mask_of test text → IsFirstByte test text (Some (count_trailing_zeros (bits w) (mask_of test text)))
first_set w test text short some =
    let first = lowest_first w (λ i. (i < length text) × Passes test text i) (mask_of test text) (length text) (λ i p. (has_bit test text i).1 p) (λ i e. let p = (has_bit test text i).0 e in (p.0, p)) (mask_fits (bits w) test text short) some in (
      record {
        low = first.0.low;
        high = first.0.high;
        before = λ k low lt passes. first.0.before k low lt (omega (arith, first.0.high), passes);
      },
      first.1.1,
    )

one_at_top : (m j : ℕ) → 2 ^ j ≤ m → m < 2 ^ suc j → bit_at m j ≡ 1
one_at_top m j low high =
    let least : 1 ≤ m / 2 ^ j = subst (λ n. n ≤ m / 2 ^ j) (ap (λ n. n / 2 ^ j) (omega arith) ∙ shl-shr 1 j) (shr_mono j low) in
    let most : m / 2 ^ j < 2 ^ 1 = shr_lt 1 j (subst (λ n. m < 2 ^ n) (omega arith) high) in
    omega arith

-- the highest bit is that of the last
pub last_set : (w : Width) (test : ℕ → Bool) (text : List ℕ) (n : ℕ) → length text ≤ bits w → 0 < mask_of test text → n ≡ bits w - 1 - count_leading_zeros (bits w) (mask_of test text) → IsLastByte test text (Some n)
last_set w test text n short some is =
    let m = mask_of test text in
    let highest = leading_top (bits w) m some (mask_fits (bits w) test text short) in
    let at : highest.0 ≡ n = omega (arith, highest.1) in
    let found = (has_bit test text n).0 (subst (λ j. bit_at m j ≡ 1) at (one_at_top m highest.0 highest.2 highest.3)) in (
      record {
        low = omega arith;
        high = found.0;
        after = λ k low lt passes. let set = (has_bit test text k).1 (lt, passes) in let unset = bit_at_above m (suc highest.0) k highest.3 (omega arith) in omega arith;
      },
      found.1,
    )

-- ---- none of a class, and all

lacking : (b : Bool) (m : ℕ) (rest : Bool) → cond b 1 0 + 2 * m ≡ 0 → (m ≡ 0 → rest ≡ false) → (b || rest) ≡ false
lacking true m rest e h = absurd (omega arith)
lacking false m rest e h = h (omega arith)

-- no bit is set: no byte is of the class
pub empty_lacks : (test : ℕ → Bool) (text : List ℕ) → mask_of test text ≡ 0 → Lacks test text
empty_lacks test [] e = refl
empty_lacks test (b ∷ text) e = lacking (test b) (mask_of test text) _ e (empty_lacks test text)

unset_first : (b : Bool) (m : ℕ) → b ≡ false → m ≡ 0 → cond b 1 0 + 2 * m ≡ 0
unset_first b m e h = ap (λ t. cond t 1 0 + 2 * m) e ∙ omega arith

-- no byte is of the class: no bit is set
pub lacks_empty : (test : ℕ → Bool) (text : List ℕ) → Lacks test text → mask_of test text ≡ 0
lacks_empty test [] e = refl
lacks_empty test (b ∷ text) e = let parts = or_parts (test b) (list_any test text) e in unset_first (test b) _ parts.0 (lacks_empty test text parts.1)

full_step : (b : Bool) (m p : ℕ) (rest : Bool) → 0 < p → m < p → (m ≡ p - 1 → rest ≡ true) → cond b 1 0 + 2 * m ≡ p * 2 - 1 → (b && rest) ≡ true
full_step true m p rest some lt h e = h (omega arith)
full_step false m p rest some lt h e = absurd (omega arith)

-- all bits are set: each byte is of the class
pub full_all : (test : ℕ → Bool) (text : List ℕ) → mask_of test text ≡ 2 ^ length text - 1 → list_all test text ≡ true
full_all test [] e = refl
full_all test (b ∷ text) e = full_step (test b) (mask_of test text) (2 ^ length text) _ (pow_pos (length text)) (mask-lt test text) (full_all test text) (e ∙ ap (λ n. n - 1) (pow-suc 2 (length text)))

set_first : (b : Bool) (m p : ℕ) → b ≡ true → 0 < p → m ≡ p - 1 → cond b 1 0 + 2 * m ≡ p * 2 - 1
set_first b m p e some h = ap (λ t. cond t 1 0 + 2 * m) e ∙ omega arith

-- each byte is of the class: all bits are set
pub all_full : (test : ℕ → Bool) (text : List ℕ) → list_all test text ≡ true → mask_of test text ≡ 2 ^ length text - 1
all_full test [] e = refl
all_full test (b ∷ text) e =
    let parts = and_parts (test b) (list_all test text) e in
    set_first (test b) _ (2 ^ length text) parts.0 (pow_pos (length text)) (all_full test text parts.1) ∙ sym (ap (λ n. n - 1) (pow-suc 2 (length text)))

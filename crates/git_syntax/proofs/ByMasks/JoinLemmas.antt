-- Masks of a text by those of its parts, and the other way round.
use Rattle.std.proofs.Common.{◌≡◌, ℕ, zero, suc, ◌+◌, ◌-◌, ◌*◌, ◌/◌, ◌%◌, ◌^◌, ◌<◌, ◌≤◌, Bool, true, false, cond, List, [], ◌∷◌, ◌++◌, length, take, drop, sym, ap, ap₂, ◌∙◌, subst, arith, bit_and, bit_or, pow_pos, pow-suc, mul_assoc, length-drop, length-take-le, take-add, drop-drop, shl_exact, div-one}
use Rattle.git_syntax.specs.Internal.Masks.{mask_of}
use Rattle.git_syntax.proofs.ByMasks.BitLemmas.{mask-lt}
use lib.Bits.{and_mask, or_block, or_self, or_zero_l, or_zero_r}
use lib.Pow.{shr-shr, mod-pow-add}
use native.Mathlib.Nat.{zero-div, zero-mod, mod-one}

shifted : (c m n p : ℕ) → c + 2 * (m * p + n) ≡ m * (p * 2) + (c + 2 * n)
shifted c m n p = omega (arith, mul_assoc m p 2)

-- the bits of the second part are above those of the first
pub mask-append : (test : ℕ → Bool) (xs ys : List ℕ) → mask_of test (xs ++ ys) ≡ mask_of test ys * 2 ^ length xs + mask_of test xs
mask-append test [] ys = omega arith
mask-append test (x ∷ xs) ys =
    let p = 2 ^ length xs in
    ap (λ n. cond (test x) 1 0 + 2 * n) (mask-append test xs ys) ∙ shifted (cond (test x) 1 0) (mask_of test ys) (mask_of test xs) p
    ∙ ap (λ n. mask_of test ys * n + (cond (test x) 1 0 + 2 * mask_of test xs)) (sym (pow-suc 2 (length xs)))

half : (b : Bool) (m : ℕ) → (cond b 1 0 + 2 * m) / 2 ≡ m
half b m = half_of (cond b 1 0) m (bit b)
  where
    bit : (b : Bool) → cond b 1 0 < 2
    bit true = omega arith
    bit false = omega arith

    half_of : (c m : ℕ) → c < 2 → (c + 2 * m) / 2 ≡ m
    half_of c m lt = omega arith

odd : (b : Bool) (m : ℕ) → (cond b 1 0 + 2 * m) % 2 ≡ cond b 1 0
odd b m = odd_of (cond b 1 0) m (bit b)
  where
    bit : (b : Bool) → cond b 1 0 < 2
    bit true = omega arith
    bit false = omega arith

    odd_of : (c m : ℕ) → c < 2 → (c + 2 * m) % 2 ≡ c
    odd_of c m lt = omega arith

-- after a place
pub mask-drop : (test : ℕ → Bool) (n : ℕ) (xs : List ℕ) → mask_of test (drop n xs) ≡ mask_of test xs / 2 ^ n
mask-drop test zero xs = sym (div-one (mask_of test xs))
mask-drop test (suc n) [] = sym (zero-div (2 ^ suc n))
mask-drop test (suc n) (x ∷ xs) =
    mask-drop test n xs ∙ ap (λ m. m / 2 ^ n) (sym (half (test x) (mask_of test xs))) ∙ shr-shr (mask_of test (x ∷ xs)) 1 n
    ∙ ap (λ k. mask_of test (x ∷ xs) / 2 ^ k) (omega arith)

-- before a place
pub mask-take : (test : ℕ → Bool) (n : ℕ) (xs : List ℕ) → mask_of test (take n xs) ≡ mask_of test xs % 2 ^ n
mask-take test zero xs = sym (mod-one (mask_of test xs))
mask-take test (suc n) [] = sym (zero-mod (2 ^ suc n))
mask-take test (suc n) (x ∷ xs) =
    let m = mask_of test (x ∷ xs) in
    ap (λ k. cond (test x) 1 0 + 2 * k) (mask-take test n xs)
    ∙ sum _ _ _ _ (sym (half (test x) (mask_of test xs))) (sym (odd (test x) (mask_of test xs)))
    ∙ sym (mod-pow-add m n 1) ∙ ap (λ k. m % 2 ^ k) (omega arith)
  where
    sum : (c m h p : ℕ) → m ≡ h → c ≡ p → c + 2 * (m % 2 ^ n) ≡ h % 2 ^ n * 2 + p
    sum c m h p e f = ap₂ (λ k l. l + 2 * (k % 2 ^ n)) e f ∙ omega arith

-- two parts that overlap
pub overlap : (test : ℕ → Bool) (xs ys zs : List ℕ) → bit_or (mask_of test (xs ++ ys)) (mask_of test (ys ++ zs) * 2 ^ length xs) ≡ mask_of test (xs ++ (ys ++ zs))
overlap test xs ys zs =
    let x = mask_of test xs in
    let y = mask_of test ys in
    let z = mask_of test zs in
    let k = length xs in
    let l = length ys in
    let inner : bit_or y (z * 2 ^ l + y) ≡ z * 2 ^ l + y = ap (λ n. bit_or n (z * 2 ^ l + y)) (zero_block y l) ∙ or_block l 0 z y y (mask-lt test ys) (mask-lt test ys) ∙ ap₂ (λ m n. m * 2 ^ l + n) (or_zero_l z) (or_self y) in
    ap₂ bit_or (mask-append test xs ys) (ap (λ n. n * 2 ^ k) (mask-append test ys zs) ∙ whole ((z * 2 ^ l + y) * 2 ^ k))
    ∙ or_block k y (z * 2 ^ l + y) x 0 (mask-lt test xs) (pow_pos k)
    ∙ ap₂ (λ m n. m * 2 ^ k + n) (inner ∙ sym (mask-append test ys zs)) (or_none x)
    ∙ sym (mask-append test xs (ys ++ zs))
  where
    zero_block : (y l : ℕ) → y ≡ 0 * 2 ^ l + y
    zero_block y l = omega arith

    whole : (n : ℕ) → n ≡ n + 0
    whole n = omega arith

    or_none : (n : ℕ) → bit_or n 0 ≡ n
    or_none = or_zero_r

-- a front of a text, and 16 bytes of it at a place
pub joined : (test : ℕ → Bool) (text : List ℕ) (done at : ℕ) → at ≤ done → done ≤ at + 16 → at + 16 ≤ length text → length text ≤ 64
    → bit_or (mask_of test (take done text)) (mask_of test (take 16 (drop at text)) * 2 ^ at % 2 ^ 64) ≡ mask_of test (take (at + 16) text)
joined test text done at suffix near buffer short =
    let xs = take at text in
    let ys = take (done - at) (drop at text) in
    let zs = take (at + 16 - done) (drop done text) in
    let long : length xs ≡ at = length-take-le at text (omega arith) in
    let to_done : done ≡ at + (done - at) = omega arith in
    let to_end : 16 ≡ (done - at) + (at + 16 - done) = omega arith in
    let front : take done text ≡ xs ++ ys = ap (λ n. take n text) to_done ∙ take-add at (done - at) text in
    let back : take 16 (drop at text) ≡ ys ++ zs =
    ap (λ n. take n (drop at text)) to_end ∙ take-add (done - at) (at + 16 - done) (drop at text)
    ∙ ap (λ l. ys ++ take (at + 16 - done) l) (drop-drop (done - at) at text ∙ ap (λ n. drop n text) (sym to_done)) in
    let whole : take (at + 16) text ≡ xs ++ (ys ++ zs) = take-add at 16 text ∙ ap (λ l. xs ++ l) back in
    let block = mask_of test (ys ++ zs) in
    let size : length (ys ++ zs) ≡ 16 = ap length (sym back) ∙ length-take-le 16 (drop at text) (omega (arith, length-drop at text)) in
    let fits : block * 2 ^ at % 2 ^ 64 ≡ block * 2 ^ at = shl_exact 16 at 64 (subst (λ n. block < 2 ^ n) size (mask-lt test (ys ++ zs))) (omega arith) in
    ap₂ (λ a b. bit_or (mask_of test a) (mask_of test b * 2 ^ at % 2 ^ 64)) front back
    ∙ ap (λ b. bit_or (mask_of test (xs ++ ys)) b) (fits ∙ ap (λ n. block * 2 ^ n) (sym long))
    ∙ overlap test xs ys zs ∙ ap (mask_of test) (sym whole)

-- ---- a place

-- a number with one bit
pub one_shifted : (size n : ℕ) → n < size → 1 * 2 ^ n % 2 ^ size ≡ 2 ^ n
one_shifted size n lt = shl_exact 1 n size (omega arith) (omega arith) ∙ omega arith

-- the bits before a place
pub front_bits : (size : ℕ) (test : ℕ → Bool) (text : List ℕ) (n : ℕ) → n < size → bit_and (mask_of test text) (1 * 2 ^ n % 2 ^ size - 1) ≡ mask_of test (take n text)
front_bits size test text n lt = ap (λ p. bit_and (mask_of test text) (p - 1)) (one_shifted size n lt) ∙ and_mask (mask_of test text) n ∙ sym (mask-take test n text)

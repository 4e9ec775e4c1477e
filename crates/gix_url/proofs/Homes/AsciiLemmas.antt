-- Bytes that a test of all lanes of a vector shows to be ASCII.
use Rattle.std.proofs.Common.{◌≡◌, ℕ, zero, suc, ◌+◌, ◌-◌, ◌%◌, ◌^◌, ◌<◌, ◌≤◌, Bool, true, false, cond, eqb, leb, List, [], ◌∷◌, length, drop, get_or, map, replicate, refl, sym, ap, subst, ◌∙◌, arith, get_or-take, get_or-drop, IsTrue}
use Rattle.std.proofs.lemmas.Bool.{eqb-true, leb-false}
use Rattle.std.proofs.lemmas.List.{length-map, length-replicate}
use Rattle.std.proofs.lemmas.Simd.{length-chunk, length-zip2, mask_l-mod}
use lib.Lanes.{chunk, mask_l, zip2, top}
use Rattle.gix_url.specs.Paths.{IsAsciiBetween}

-- the mask of a comparison that is passed
abbrev pub at_least : ℕ → ℕ → ℕ
at_least a b = cond (leb a b) 255 0

-- no bit of the mask is set, so no byte is 128 or more
none_high : (xs : List ℕ) → mask_l (map (top 7) (zip2 at_least (replicate (length xs) 128) xs)) ≡ 0 → (i : ℕ) → get_or xs i 0 < 128
none_high [] e i = omega arith
none_high (x ∷ xs) e zero = go (leb 128 x) refl (omega arith)
  where
    go : (t : Bool) → leb 128 x ≡ t → ◌≡◌ {A = ℕ} (cond (top 7 (cond t 255 0)) 1 0) 0 → x < 128
    go true p q = absurd (omega arith)
    go false p q = leb-false _ _ p
none_high (x ∷ xs) e (suc i) = none_high xs (omega arith) i

-- a load of n bytes from an index whose comparison with 128 has no bit set
pub ascii_lanes : (d : List ℕ) (i n : ℕ) → i + n ≤ length d → n ≤ 64 → IsTrue (eqb (mask_l (map (top 7) (zip2 at_least (replicate n 128) (chunk i n d))) % 2 ^ 64) 0) → IsAsciiBetween d i (i + n)
ascii_lanes d i n fits few none k p q =
    let long = length-chunk i n d fits in
    let tests = zip2 at_least (replicate n 128) (chunk i n d) in
    let small = mask_l-mod (map (top 7) tests) 64 (omega (arith, length-map tests (top 7), length-zip2 at_least (replicate n 128) (chunk i n d) (length-replicate n 128 ∙ sym long), length-replicate {A = ℕ} n 128)) in
    let zero = sym small ∙ eqb-true _ 0 none in
    let back : i + (k - i) ≡ k = omega arith in
    let same = get_or-take n (drop i d) (k - i) 0 (omega arith) ∙ get_or-drop i d (k - i) 0 ∙ ap (λ j. get_or d j 0) back in
    subst (λ b. b < 128) same (none_high (chunk i n d) (subst (λ m. mask_l (map (top 7) (zip2 at_least (replicate m 128) (chunk i n d))) ≡ 0) (sym long) zero) (k - i))

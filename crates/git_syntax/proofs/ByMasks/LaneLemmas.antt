-- Masks of a vector that is computed lane by lane: they are those of a class if this is seen at each of the
-- 256 bytes.
use Rattle.std.proofs.Common.{◌≡◌, ℕ, ◌+◌, ◌-◌, ◌*◌, ◌/◌, ◌%◌, ◌^◌, ◌<◌, ◌≤◌, Bool, true, cond, leb, bit_and, List, [], ◌∷◌, length, map, get_or, replicate, refl, sym, ap, ap₂, ◌∙◌, arith, w8, Fits}
use Rattle.std.specs.Simd.Lanes.{zip2, mask_l, top, Each1}
use Rattle.std.proofs.lemmas.Bool.{agree_below, agree_below_at}
use Rattle.std.proofs.lemmas.Simd.{zip2_splat, zip2_of_maps, splat_is_map, mask_l-mod, Each1-all, Each1-weaker, Each1-zip2, Each2-splat, below_from_Fits, swz_l, SwzOk, SwzOk-from_below, length-swz_l, get_or-swz_l_below, Each1-get_or}
use Rattle.std.proofs.lemmas.List.{length-map, get_or-map, ext_get_or}
use Rattle.std.proofs.lemmas.Nat.{and_le_r}
use Rattle.git_syntax.specs.Internal.Masks.{mask_of}

-- the result of a comparison of two lanes
abbrev pub compared : (ℕ → ℕ → Bool) → ℕ → ℕ → ℕ
compared test a b = cond (test a b) 255 0

-- a lane less another
abbrev pub less : ℕ → ℕ → ℕ
less a b = (a + (256 - b)) % 256

-- the lanes of a range, less its first byte
abbrev pub in_range : ℕ → ℕ → ℕ → ℕ
in_range first span b = compared leb (less b first) span

-- which lanes of a vector are in the range
pub in_range_lanes : (first span n : ℕ) (v : List ℕ) → length v ≡ n
    → zip2 (compared leb) (zip2 less v (replicate n first)) (replicate n span) ≡ map (in_range first span) v
in_range_lanes first span n v long =
    zip2_of_maps (compared leb) (λ b. less b first) (λ _. span) v (zip2_splat less v n first long) (splat_is_map v n span long)

each_lane : (f : ℕ → ℕ) (test : ℕ → Bool) → ((b : ℕ) → b < 256 → top 7 (f b) ≡ test b) → (v : List ℕ) → Each1 (Fits w8) v → map (top 7) (map f v) ≡ map test v
each_lane f test agree [] fits = refl
each_lane f test agree (b ∷ v) fits = ap₂ (λ x xs. x ∷ xs) (agree b fits.0.fits) (each_lane f test agree v fits.1)

-- the mask of a vector of n lanes
pub mask_of_lanes : (f : ℕ → ℕ) (test : ℕ → Bool) (n : ℕ) (v z : List ℕ) → n ≤ 64 → (length v ≡ n) × Each1 (Fits w8) v → z ≡ map f v
    → agree_below (λ b. top 7 (f b)) test 256 ≡ true → mask_l (map (top 7) z) % 2 ^ 64 ≡ mask_of test v
mask_of_lanes f test n v z small fits is agree =
    ap (λ l. mask_l l % 2 ^ 64) (ap (map (top 7)) is ∙ each_lane f test (λ b h. agree_below_at (λ k. top 7 (f k)) test 256 b agree h) v fits.1) ∙ mask_l-mod (map test v) 64 (omega (arith, length-map v test, fits.0))

-- ---- tables of 16 entries

-- the low halves of bytes, and the high ones
abbrev low_halves : List ℕ → List ℕ
low_halves v = zip2 bit_and v (replicate 16 15)

abbrev pub down : ℕ → ℕ → ℕ
down a b = a / 2 ^ b

abbrev high_halves : List ℕ → List ℕ
high_halves v = zip2 down v (replicate 16 4)

low_small : (v : List ℕ) → Each1 (λ j. j < 16) (low_halves v)
low_small v =
    Each1-zip2 bit_and (λ j. j < 16) v (replicate 16 15)
    (Each2-splat (λ a b. bit_and a b < 16) v 16 15 (Each1-all (λ a. bit_and a 15 < 16) (λ a. omega (arith, and_le_r a 15)) v))

high_small : (v : List ℕ) → Each1 (Fits w8) v → Each1 (λ j. j < 16) (high_halves v)
high_small v fits =
    Each1-zip2 down (λ j. j < 16) v (replicate 16 4)
    (Each2-splat (λ a b. down a b < 16) v 16 4 (Each1-weaker (λ a. a < 256) (λ a. a / 16 < 16) (λ a h. omega arith) v (below_from_Fits w8 v fits)))

-- 16 places below 16 may be looked up
may_look_up : (v js : List ℕ) (g : ℕ → ℕ) → length v ≡ 16 → js ≡ map g v → Each1 (λ j. j < 16) js → SwzOk w8 16 16 0 js
may_look_up v js g long is small = SwzOk-from_below w8 16 1 16 0 js refl (omega (arith, ap length is, length-map v g, long)) small

-- what is found there
looked_up : (table v js : List ℕ) (g : ℕ → ℕ) → length v ≡ 16 → js ≡ map g v → Each1 (λ j. j < 16) js → swz_l w8 16 table 0 js ≡ map (λ b. get_or table (g b) 0) v
looked_up table v js g long is small =
    let count : length js ≡ 16 = ap length is ∙ length-map v g ∙ long in
    ext_get_or 0 _ _ (length-swz_l w8 16 table 0 js ∙ count ∙ sym (length-map v (λ b. get_or table (g b) 0) ∙ long)) (λ i h.
    let lt : i < 16 = omega (arith, length-swz_l w8 16 table 0 js, count) in
    let within : i < length v = omega (arith, long) in
    let below : get_or js i 0 < 16 = Each1-get_or (λ j. j < 16) js i 0 (omega (arith, count)) small in
    let here : 16 * ((0 + i) / 16) + get_or js i 0 ≡ get_or js i 0 = omega arith in
    get_or-swz_l_below w8 16 table 0 js i (omega (arith, count)) below
    ∙ ap (λ k. get_or table k 0) (here ∙ ap (λ l. get_or l i 0) is ∙ get_or-map g v i 0 0 within)
    ∙ sym (get_or-map (λ b. get_or table (g b) 0) v i 0 0 within))

pub low_ok : (v : List ℕ) → length v ≡ 16 → SwzOk w8 16 16 0 (zip2 bit_and v (replicate 16 15))
low_ok v long = may_look_up v (low_halves v) (λ b. bit_and b 15) long (zip2_splat bit_and v 16 15 long) (low_small v)

pub low_entries : (table v : List ℕ) → length v ≡ 16 → swz_l w8 16 table 0 (zip2 bit_and v (replicate 16 15)) ≡ map (λ b. get_or table (bit_and b 15) 0) v
low_entries table v long = looked_up table v (low_halves v) (λ b. bit_and b 15) long (zip2_splat bit_and v 16 15 long) (low_small v)

pub high_ok : (v : List ℕ) → length v ≡ 16 → Each1 (Fits w8) v → SwzOk w8 16 16 0 (zip2 down v (replicate 16 4))
high_ok v long fits = may_look_up v (high_halves v) (λ b. b / 16) long (zip2_splat down v 16 4 long) (high_small v fits)

pub high_entries : (table v : List ℕ) → length v ≡ 16 → Each1 (Fits w8) v → swz_l w8 16 table 0 (zip2 down v (replicate 16 4)) ≡ map (λ b. get_or table (b / 16) 0) v
high_entries table v long fits = looked_up table v (high_halves v) (λ b. b / 16) long (zip2_splat down v 16 4 long) (high_small v fits)

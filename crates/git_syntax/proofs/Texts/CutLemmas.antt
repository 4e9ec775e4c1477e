-- Texts cut around a byte or a mark: the bytes that the pieces lack, that the
-- text determines them, and the bytes that classes lack.
use Rattle.std.proofs.Common.{◌≡◌, ℕ, zero, suc, ◌+◌, ◌<◌, ◌≤◌, Bool, true, false, ◌==◌, ◌⊎◌, inl, inr, List, [], ◌∷◌, ◌++◌, length, take, drop, get_or, refl, sym, ap, subst, ◌∙◌, arith, append_assoc, add-one, eqb, Some, None, bytes_eq}
use Rattle.std.proofs.lemmas.Bool.Decides.{nat_tests}
use Rattle.std.specs.List.{list_any, list_all, position_or_len}
use Rattle.std.proofs.lemmas.List.Sums.{fails_before_first, passes_at_first}
use Rattle.std.proofs.lemmas.Bool.{both_ways, cases_Bool, cases_lt, and_from, eqb-true, eq-eqb, and_parts, or_parts, or_from, false_from_ne_true}
use Rattle.std.proofs.lemmas.Grind.{same_number_lists}
use Rattle.std.proofs.lemmas.List.{at_drop_more, drop_all, take-append-drop, drop-drop, get_or-take, get_or-drop, get_or-append-add, get_or_append_left, length-take-le, length-take, length-drop, length-append, take_at, append_cancel_left}
use Rattle.bstr.specs.Find.{OccursAt}
use Rattle.memchr.specs.Find.{IsFirstByte, IsLastByte, FindsNeedle, is_byte}
use Rattle.git_syntax.specs.Bytes.{colon, Lacks, FreeOf, Holds, begins_by, begins_with, is_name_byte, is_scheme_text, is_helper_name, is_path_start, StartsPath}
use Rattle.git_syntax.specs.Internal.Cuts.{url_mark}
use Rattle.std.proofs.lemmas.Slice.Eq.{bytes_eq-Decides}

-- ---- heads and tails

-- equal lists begin alike
pub heads : {a b : ℕ} {x y : List ℕ} → a ∷ x ≡ b ∷ y → a ≡ b
heads e = cc

-- and go on alike
pub tails : {a b : ℕ} {x y : List ℕ} → a ∷ x ≡ b ∷ y → x ≡ y
tails e = cc

-- lists that begin with different bytes are not equal
pub different_bytes : {A : Type 0} (a b : ℕ) {x y : List ℕ} → eqb a b ≡ false → a ∷ x ≡ b ∷ y → A
different_bytes a b h e = absurd (both_ways (eqb a b) h (eq-eqb a b (heads e)))

-- ---- the bytes that a text lacks

-- the whole lacks each byte that both parts lack
pub lacks-append : (test : ℕ → Bool) (x y : List ℕ) → Lacks test x → Lacks test y → Lacks test (x ++ y)
lacks-append test [] y h k = k
lacks-append test (b ∷ x) y h k =
    let parts = or_parts (test b) (list_any test x) h in
    or_from (test b) (list_any test (x ++ y)) parts.0 (lacks-append test x y parts.1 k)

-- the parts lack each byte that the whole lacks
pub lacks_parts : (test : ℕ → Bool) (x y : List ℕ) → Lacks test (x ++ y) → Lacks test x × Lacks test y
lacks_parts test [] y h = (refl, h)
lacks_parts test (b ∷ x) y h =
    let parts = or_parts (test b) (list_any test (x ++ y)) h in
    let rest = lacks_parts test x y parts.1 in
    (or_from (test b) (list_any test x) parts.0 rest.0, rest.1)

-- a text lacks each byte that its first byte and the others lack
pub lacks-cons : (test : ℕ → Bool) (b : ℕ) (x : List ℕ) → test b ≡ false → Lacks test x → Lacks test (b ∷ x)
lacks-cons test b x h k = or_from (test b) (list_any test x) h k

-- and its first byte and the others lack each byte that it lacks
pub lacks_head_tail : (test : ℕ → Bool) (b : ℕ) (x : List ℕ) → Lacks test (b ∷ x) → (test b ≡ false) × Lacks test x
lacks_head_tail test b x h = or_parts (test b) (list_any test x) h

-- a text that lacks a wider class of bytes lacks a narrower one
pub lacks_weaker : (t u : ℕ → Bool) → ((b : ℕ) → t b ≡ true → u b ≡ true) → (bs : List ℕ) → Lacks u bs → Lacks t bs
lacks_weaker t u within [] h = refl
lacks_weaker t u within (b ∷ bs) h =
    let parts = or_parts (u b) (list_any u bs) h in
    or_from (t b) (list_any t bs) (false_from_ne_true (t b) (λ e. both_ways (u b) parts.0 (within b e))) (lacks_weaker t u within bs parts.1)

-- bytes of a class are bytes of a wider one
pub all_weaker : (narrow wide : ℕ → Bool) → ((b : ℕ) → narrow b ≡ true → wide b ≡ true) → (bs : List ℕ) → list_all narrow bs ≡ true → list_all wide bs ≡ true
all_weaker narrow wide within [] h = refl
all_weaker narrow wide within (b ∷ bs) h =
    let parts = and_parts (narrow b) (list_all narrow bs) h in
    and_from _ _ (within b parts.0) (all_weaker narrow wide within bs parts.1)

-- bytes of a class lack another class that shares no byte with it
pub lacks_of_all : (test other : ℕ → Bool) → ((b : ℕ) → test b ≡ true → other b ≡ false) → (bs : List ℕ) → list_all test bs ≡ true → Lacks other bs
lacks_of_all test other apart [] h = refl
lacks_of_all test other apart (b ∷ bs) h =
    let parts = and_parts (test b) (list_all test bs) h in
    or_from _ _ (apart b parts.0) (lacks_of_all test other apart bs parts.1)

-- bytes up to a place lack each byte that none of them passes
pub lacks_before : (test : ℕ → Bool) (bs : List ℕ) (n : ℕ) → ((k : ℕ) → k < n → ¬ (test (get_or bs k 0) ≡ true)) → Lacks test (take n bs)
lacks_before test bs zero h = refl
lacks_before test [] (suc n) h = refl
lacks_before test (b ∷ bs) (suc n) h =
    or_from (test b) (list_any test (take n bs)) (false_from_ne_true (test b) (h 0 (omega arith))) (lacks_before test bs n (λ k l. h (suc k) (omega arith)))

-- bytes from a place on lack each byte that none of them passes
pub lacks_after : (test : ℕ → Bool) (bs : List ℕ) (n : ℕ) → ((k : ℕ) → n ≤ k → k < length bs → ¬ (test (get_or bs k 0) ≡ true)) → Lacks test (drop n bs)
lacks_after test [] zero h = refl
lacks_after test (b ∷ bs) zero h =
    or_from (test b) (list_any test bs) (false_from_ne_true (test b) (h 0 (omega arith) (omega arith))) (lacks_after test bs zero (λ k l m. h (suc k) (omega arith) (omega arith)))
lacks_after test [] (suc n) h = refl
lacks_after test (b ∷ bs) (suc n) h = lacks_after test bs n (λ k l m. h (suc k) (omega arith) (omega arith))

-- ---- the bytes that a text is free of

-- the whole is free of each byte that both parts are free of
pub free-append : (c : ℕ) (x y : List ℕ) → FreeOf c x → FreeOf c y → FreeOf c (x ++ y)
free-append c = lacks-append (λ b. b == c)

-- the parts are free of each byte that the whole is free of
pub free_parts : (c : ℕ) (x y : List ℕ) → FreeOf c (x ++ y) → FreeOf c x × FreeOf c y
free_parts c = lacks_parts (λ b. b == c)

-- a text is free of a byte that is not its first and that the others are free of
pub free-cons : (c b : ℕ) (x : List ℕ) → (b == c) ≡ false → FreeOf c x → FreeOf c (b ∷ x)
free-cons c = lacks-cons (λ b. b == c)

-- and its first byte is another, and the others are free of it
pub free_head_tail : (c b : ℕ) (x : List ℕ) → FreeOf c (b ∷ x) → ((b == c) ≡ false) × FreeOf c x
free_head_tail c = lacks_head_tail (λ b. b == c)

-- bytes of a class are free of a byte outside of it
pub free_of_all : (test : ℕ → Bool) (c : ℕ) (bs : List ℕ) → list_all test bs ≡ true → test c ≡ false → FreeOf c bs
free_of_all test c bs h k = grind (arith, nat_tests, lacks_of_all, both_ways, eqb-true, false_from_ne_true)

-- a text that lacks a class of bytes is free of each of them
pub free_of_lacked : (test : ℕ → Bool) (c : ℕ) (bs : List ℕ) → Lacks test bs → test c ≡ true → FreeOf c bs
free_of_lacked test c bs h k = lacks_weaker (λ b. b == c) test (λ b e. ap test (eqb-true b c e) ∙ k) bs h

-- a text is free of a byte, or is the text before the first such byte, the byte, and the text after it
pub free_or_cut : (c : ℕ) (bs : List ℕ) → FreeOf c bs ⊎ ((x : List ℕ) × (y : List ℕ) × FreeOf c x × (bs ≡ x ++ c ∷ y))
free_or_cut c [] = inl refl
free_or_cut c (b ∷ bs) =
    elim (cases_Bool (b == c)) [
      | inl same ↦ inr ([], bs, refl, ap (λ d. d ∷ bs) (eqb-true b c same))
      | inr other ↦ elim (free_or_cut c bs) [
        | inl h ↦ inl (free-cons c b bs other h)
        | inr (x, y, h, e) ↦ inr (b ∷ x, y, free-cons c b x other h, ap (λ z. b ∷ z) e)
      ]
    ]

-- a text ends in a byte, or doesn't
abbrev pub EndsOrNot : ℕ → List ℕ → Type 0
EndsOrNot c t = ((front : List ℕ) × (t ≡ front ++ c ∷ [])) ⊎ ((front : List ℕ) → ¬ (t ≡ front ++ c ∷ []))

-- by whether the byte after all but one byte of the text makes it up
pub ends_or_not : (c : ℕ) (t : List ℕ) → EndsOrNot c t
ends_or_not c [] = inr (λ front e. absurd (omega (arith, ap length e, length-append front (c ∷ []))))
ends_or_not c (b ∷ t) =
    let before = take (length t) (b ∷ t) in
    let same = bytes_eq-Decides (b ∷ t) (before ++ c ∷ []) in
    elim (cases_Bool (bytes_eq (b ∷ t) (before ++ c ∷ []))) [
      | inl ends ↦ inl (before, same.0 ends)
      | inr other ↦
          inr (λ front e.
          let is : before ≡ front = ap (take (length t)) e ∙ take_at front (c ∷ []) (length t) (omega (arith, ap length e, length-append front (c ∷ []))) in
          both_ways _ other (same.1 (e ∙ ap (λ x. x ++ c ∷ []) (sym is))))
    ]

-- a text that begins with a byte is the byte and the rest
pub begins_cut : (c : ℕ) (bs : List ℕ) → begins_with c bs ≡ true → (rest : List ℕ) × (bs ≡ c ∷ rest)
begins_cut c bs h = grind arith

-- a text that is free of a byte doesn't begin with it
pub free_begins : (c : ℕ) (bs : List ℕ) → FreeOf c bs → begins_with c bs ≡ false
free_begins c bs h = grind arith

-- how a text begins, so does the whole with another text after it
pub begins-append : (c : ℕ) (x y : List ℕ) → 0 < length x → begins_with c (x ++ y) ≡ begins_with c x
begins-append c x y some = grind arith

-- a text with a byte in it is not free of the byte
pub not_free : (c : ℕ) (x y : List ℕ) → FreeOf c (x ++ c ∷ y) → ⊥
not_free c x y h = grind (arith, nat_tests, free_parts, free_head_tail, both_ways, eq-eqb)

-- ---- cuts at a byte

-- a text is the text before a byte, the byte, and the text after it
joined_around : (c : ℕ) (bs : List ℕ) (n : ℕ) → n < length bs → (get_or bs n 0 == c) ≡ true → bs ≡ take n bs ++ c ∷ drop (n + 1) bs
joined_around c [] n l h = absurd (omega arith)
joined_around c (b ∷ bs) zero l h = ap (λ d. d ∷ bs) (eqb-true b c h)
joined_around c (b ∷ bs) (suc n) l h =
    rw (add-one (suc n)) (ap (λ ds. b ∷ ds) (rw (add-one n) at (joined_around c bs n (omega arith) h)))

-- the pieces around the first place of a byte
pub first_found : (c : ℕ) (bs : List ℕ) (n : ℕ) → IsFirstByte (is_byte c) bs (Some n) → FreeOf c (take n bs) × (bs ≡ take n bs ++ c ∷ drop (n + 1) bs)
first_found c bs n h = grind (arith, nat_tests, lacks_before, joined_around)

-- a byte that has no first place isn't in the text
pub none_found : (c : ℕ) (bs : List ℕ) → IsFirstByte (is_byte c) bs None → FreeOf c bs
none_found c bs h = lacks_after (is_byte c) bs 0 (λ k l m. h k l m)

-- the pieces around the last place of a byte
pub last_found : (c : ℕ) (bs : List ℕ) (n : ℕ) → IsLastByte (is_byte c) bs (Some n) → FreeOf c (drop (n + 1) bs) × (bs ≡ take n bs ++ c ∷ drop (n + 1) bs)
last_found c bs n h = (lacks_after (is_byte c) bs (n + 1) h.0.after, joined_around c bs n h.0.high h.1)

-- a byte that has no last place isn't in the text
pub none_last : (c : ℕ) (bs : List ℕ) → IsLastByte (is_byte c) bs None → FreeOf c bs
none_last c bs h = lacks_after (is_byte c) bs 0 (λ k l m. h k l m)

-- ---- cuts at a mark

-- a mark at a place cuts the text there
pub occurs_cut : (hay needle : List ℕ) (k : ℕ) → OccursAt hay needle k → hay ≡ take k hay ++ (needle ++ drop (k + length needle) hay)
occurs_cut hay needle k h =
    let fits : k + length needle ≤ length hay = h.fits in
    let size : length (take (length needle) (drop k hay)) ≡ length needle = length-take-le (length needle) (drop k hay) (omega (arith, length-drop k hay)) in
    let reads : (j : ℕ) → j < length (take (length needle) (drop k hay)) → get_or (take (length needle) (drop k hay)) j 0 ≡ get_or needle j 0 = λ j l. get_or-take (length needle) (drop k hay) j 0 (omega arith) ∙ get_or-drop k hay j 0 ∙ h.reads j (omega arith) in
    let middle : take (length needle) (drop k hay) ≡ needle = same_number_lists (take (length needle) (drop k hay)) needle size reads in
    let rest : drop (length needle) (drop k hay) ≡ drop (k + length needle) hay = drop-drop (length needle) k hay in
    let back : needle ++ drop (k + length needle) hay ≡ drop k hay = cc (take-append-drop (length needle) (drop k hay)) in
    cc (take-append-drop k hay)

-- a mark within joined pieces is at the place where the first piece ends
pub cut_occurs : (front needle rest : List ℕ) → OccursAt (front ++ (needle ++ rest)) needle (length front)
cut_occurs front needle rest = grind (arith, nat_tests, get_or-append-add, get_or_append_left, length-append)

-- a mark that is at no place before k isn't in the text up to k
pub none_held_before : (hay needle : List ℕ) (k : ℕ) → 0 < length needle → ((j : ℕ) → j < k → ¬ OccursAt hay needle j) → ¬ Holds needle (take k hay)
none_held_before hay needle k some h (front, rest, e) =
    let whole : hay ≡ front ++ (needle ++ (rest ++ drop k hay)) =
    sym (take-append-drop k hay) ∙ ap (λ x. x ++ drop k hay) e ∙ append_assoc front (needle ++ rest) (drop k hay) ∙ ap (λ x. front ++ x) (append_assoc needle rest (drop k hay)) in
    h (length front) (omega (arith, length-take k hay, ap length e, length-append front (needle ++ rest), length-append needle rest)) (subst (λ x. OccursAt x needle (length front)) (sym whole) (cut_occurs front needle (rest ++ drop k hay)))

-- a mark that is at no place isn't in the text
pub none_held : (hay needle : List ℕ) → ((j : ℕ) → j < length hay + 1 → ¬ OccursAt hay needle j) → ¬ Holds needle hay
none_held hay needle h (front, rest, e) =
    h (length front) (omega (arith, ap length e, length-append front (needle ++ rest))) (subst (λ x. OccursAt x needle (length front)) (sym e) (cut_occurs front needle rest))

-- the pieces around the first `://`
pub mark_found : (bs : List ℕ) (n : ℕ) → FindsNeedle bs url_mark 0 (Some n) → (¬ Holds url_mark (take n bs)) × (bs ≡ take n bs ++ (url_mark ++ drop (n + 3) bs))
mark_found bs n h = (none_held_before bs url_mark n (omega arith) (λ j l. h.0.before j (omega arith) l), occurs_cut bs url_mark n h.1)

-- `://` that has no first place isn't in the text
pub no_mark_found : (bs : List ℕ) → FindsNeedle bs url_mark 0 None → ¬ Holds url_mark bs
no_mark_found bs h = none_held bs url_mark (λ j l. h j (omega arith) l)

-- ---- cuts before a path

-- nothing before the first byte that passes does
lacks_before_first : (test : ℕ → Bool) (xs : List ℕ) → Lacks test (take (position_or_len test xs) xs)
lacks_before_first test xs = grind (arith, nat_tests, lacks_before, both_ways, fails_before_first, get_or)

-- a rest that isn't empty begins with its first byte
begins_at : (test : ℕ → Bool) (xs : List ℕ) (n : ℕ) → n < length xs → begins_by test (drop n xs) ≡ test (get_or xs n 0)
begins_at test xs n l = at_drop_more (begins_by test) xs n 0 l

-- the first byte that passes begins the rest, if any passes
begins_at_first : (test : ℕ → Bool) (xs : List ℕ) → (drop (position_or_len test xs) xs ≡ []) ⊎ (begins_by test (drop (position_or_len test xs) xs) ≡ true)
begins_at_first test xs = grind (arith, nat_tests, begins_at, cases_lt, drop_all, passes_at_first)

-- the front up to that place, and the rest
pub cut_at_first : (test : ℕ → Bool) (xs : List ℕ) → (xs ≡ take (position_or_len test xs) xs ++ drop (position_or_len test xs) xs) × Lacks test (take (position_or_len test xs) xs) × ((drop (position_or_len test xs) xs ≡ []) ⊎ (begins_by test (drop (position_or_len test xs) xs) ≡ true))
cut_at_first test xs = (sym (take-append-drop (position_or_len test xs) xs), lacks_before_first test xs, begins_at_first test xs)

-- the same by a first place that was found
pub cut_at_place : (test : ℕ → Bool) (xs : List ℕ) (n : ℕ) → IsFirstByte test xs (Some n) → (xs ≡ take n xs ++ drop n xs) × Lacks test (take n xs) × ((drop n xs ≡ []) ⊎ (begins_by test (drop n xs) ≡ true))
cut_at_place test xs n h = grind (arith, nat_tests, lacks_before, begins_at, take-append-drop)

-- if none was found, the whole is the front
pub cut_at_end : (test : ℕ → Bool) (xs : List ℕ) (n : ℕ) → n ≡ length xs → IsFirstByte test xs None → (xs ≡ take n xs ++ drop n xs) × Lacks test (take n xs) × ((drop n xs ≡ []) ⊎ (begins_by test (drop n xs) ≡ true))
cut_at_end test xs n all h = grind (arith, nat_tests, lacks_before, drop_all, take-append-drop)

-- ---- the text determines the pieces

-- a text that is empty or begins with a byte of a class doesn't begin with a byte outside of it
begins_apart : (test : ℕ → Bool) (d : ℕ) (bs p : List ℕ) → test d ≡ false → (p ≡ []) ⊎ (begins_by test p ≡ true) → p ≡ d ∷ bs → ⊥
begins_apart test d bs p h f k = grind arith

-- a front that lacks a class of bytes and a rest that is empty or begins with one of them
pub class_cut_unique : (test : ℕ → Bool) (a b p q : List ℕ) → Lacks test a → Lacks test b → (p ≡ []) ⊎ (begins_by test p ≡ true) → (q ≡ []) ⊎ (begins_by test q ≡ true) → a ++ p ≡ b ++ q → (a ≡ b) × (p ≡ q)
class_cut_unique test [] [] p q f g h k e = (refl, e)
class_cut_unique test [] (d ∷ b) p q f g h k e = absurd (begins_apart test d (b ++ q) p (lacks_head_tail test d b g).0 h e)
class_cut_unique test (d ∷ a) [] p q f g h k e = absurd (begins_apart test d (a ++ p) q (lacks_head_tail test d a f).0 k (sym e))
class_cut_unique test (c ∷ a) (d ∷ b) p q f g h k e =
    let rest : (a ≡ b) × (p ≡ q) = class_cut_unique test a b p q (lacks_head_tail test c a f).1 (lacks_head_tail test d b g).1 h k (tails e) in
    let first : c ≡ d = heads e in
    (cc rest.0, rest.1)

-- a front that lacks path starts, and a path
pub path_cut_unique : (web : Bool) (a b p q : List ℕ) → Lacks (is_path_start web) a → Lacks (is_path_start web) b → StartsPath web p → StartsPath web q → a ++ p ≡ b ++ q → (a ≡ b) × (p ≡ q)
path_cut_unique web a b p q f g h k e = class_cut_unique (is_path_start web) a b p q f g h k e

-- the pieces around a byte, of which the first is free of it
pub cut_unique : (c : ℕ) (a b x y : List ℕ) → FreeOf c a → FreeOf c b → a ++ c ∷ x ≡ b ++ c ∷ y → (a ≡ b) × (x ≡ y)
cut_unique c a b x y f g e =
    let begins : begins_by (λ d. d == c) (c ∷ x) ≡ true = eq-eqb c c refl in
    let pieces : (a ≡ b) × (c ∷ x ≡ c ∷ y) = class_cut_unique (λ d. d == c) a b (c ∷ x) (c ∷ y) f g (inr begins) (inr begins) e in
    (pieces.0, tails pieces.1)

-- the pieces around a byte, of which the last is free of it
pub last_cut_unique : (c : ℕ) (a b x y : List ℕ) → FreeOf c x → FreeOf c y → a ++ c ∷ x ≡ b ++ c ∷ y → (a ≡ b) × (x ≡ y)
last_cut_unique c [] [] x y f g e = (refl, tails e)
last_cut_unique c [] (d ∷ b) x y f g e = absurd (not_free c b y (subst (λ z. FreeOf c z) (tails e) f))
last_cut_unique c (d ∷ a) [] x y f g e = absurd (not_free c a x (subst (λ z. FreeOf c z) (sym (tails e)) g))
last_cut_unique c (d ∷ a) (k ∷ b) x y f g e =
    let rest : (a ≡ b) × (x ≡ y) = last_cut_unique c a b x y f g (tails e) in
    let first : d ≡ k = heads e in
    (cc rest.0, rest.1)

-- a text free of `:` doesn't hold `://`
pub held_free : (bs : List ℕ) → FreeOf colon bs → ¬ Holds url_mark bs
held_free bs h (front, rest, e) = not_free colon front (47 ∷ 47 ∷ rest) (subst (λ z. FreeOf colon z) e h)

-- the text after the first byte of a text without a mark holds none
not_held_after : (mark : List ℕ) (b : ℕ) (bs : List ℕ) → ¬ Holds mark (b ∷ bs) → ¬ Holds mark bs
not_held_after mark b bs h (front, rest, e) = h (b ∷ front, rest, ap (λ z. b ∷ z) e)

-- the pieces around a mark that doesn't reach from a text without it
-- into one that follows: the first doesn't hold it
pub held_cut_unique : (mark : List ℕ) → ((b : ℕ) (bs x y : List ℕ) → ¬ Holds mark (b ∷ bs) → mark ++ x ≡ b ∷ (bs ++ (mark ++ y)) → ⊥) → (a b x y : List ℕ) → ¬ Holds mark a → ¬ Holds mark b → a ++ (mark ++ x) ≡ b ++ (mark ++ y) → (a ≡ b) × (x ≡ y)
held_cut_unique mark apart [] [] x y f g e = (refl, append_cancel_left mark x y e)
held_cut_unique mark apart [] (d ∷ b) x y f g e = absurd (apart d b x y g e)
held_cut_unique mark apart (d ∷ a) [] x y f g e = absurd (apart d a y x f (sym e))
held_cut_unique mark apart (c ∷ a) (d ∷ b) x y f g e =
    let rest : (a ≡ b) × (x ≡ y) = held_cut_unique mark apart a b x y (not_held_after mark c a f) (not_held_after mark d b g) (tails e) in
    let first : c ≡ d = heads e in
    (cc rest.0, rest.1)

-- no text that holds no `://` has one that reaches from it into another that follows
no_overlap : (b : ℕ) (bs x y : List ℕ) → ¬ Holds url_mark (b ∷ bs) → url_mark ++ x ≡ b ∷ (bs ++ (url_mark ++ y)) → ⊥
no_overlap b [] x y h e = different_bytes 47 58 refl (tails e)
no_overlap b (c ∷ []) x y h e = different_bytes 47 58 refl (tails (tails e))
no_overlap b (c ∷ d ∷ bs) x y h e =
    let first : b ≡ 58 = sym (heads e) in
    let second : c ≡ 47 = sym (heads (tails e)) in
    let third : d ≡ 47 = sym (heads (tails (tails e))) in
    h ([], bs, ap (λ z. z ∷ c ∷ d ∷ bs) first ∙ ap (λ z. 58 ∷ z ∷ d ∷ bs) second ∙ ap (λ z. 58 ∷ 47 ∷ z ∷ bs) third)

-- the pieces around `://`, of which the first doesn't hold it
pub mark_cut_unique : (a b x y : List ℕ) → ¬ Holds url_mark a → ¬ Holds url_mark b → a ++ (url_mark ++ x) ≡ b ++ (url_mark ++ y) → (a ≡ b) × (x ≡ y)
mark_cut_unique a b x y f g e = held_cut_unique url_mark no_overlap a b x y f g e

-- ---- schemes and helpers' names

-- the bytes of a helper's name are bytes of a name
pub helper_name_bytes : (s : List ℕ) → is_helper_name s ≡ true → list_all is_name_byte s ≡ true
helper_name_bytes s h = grind arith

-- so it is free of each other byte: of `:`, `/`, `@`, `[` by `refl`
pub helper_name_free : (s : List ℕ) (c : ℕ) → is_helper_name s ≡ true → is_name_byte c ≡ false → FreeOf c s
helper_name_free s c h k = free_of_all is_name_byte c s (helper_name_bytes s h) k

-- a scheme is the name of a helper
pub scheme_helper_name : (s : List ℕ) → is_scheme_text s ≡ true → is_helper_name s ≡ true
scheme_helper_name s h = grind arith

-- a scheme is free of each byte that isn't a byte of a name
pub scheme_text_free : (s : List ℕ) (c : ℕ) → is_scheme_text s ≡ true → is_name_byte c ≡ false → FreeOf c s
scheme_text_free s c h k = helper_name_free s c (scheme_helper_name s h) k

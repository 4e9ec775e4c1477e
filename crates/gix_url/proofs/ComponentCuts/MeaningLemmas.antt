-- Pieces of a text around a delimiter denote the pieces of the meaning of the text.
use Rattle.std.proofs.Common.{◌≡◌, ◌∙◌, ◌≤◌, ◌<◌, ◌+◌, ◌*◌, ℕ, Bool, true, false, ◌==◌, List, [], ◌∷◌, ◌++◌, length, take, drop, refl, sym, ap, ⊎_elim, arith, append_assoc, eq-eqb, if◌then◌else◌}
use Rattle.std.specs.Char.{is_digit, digit_value}
use Rattle.std.proofs.lemmas.Bool.{cases_Bool, and_parts, false_from_ne_true, both_ways}
use Rattle.std.proofs.lemmas.List.{take_at, drop_at, length-append, map-append}
use Rattle.percent_encoding.specs.Percent.{percent_decode}
use Rattle.percent_encoding.proofs.PercentLemmas.{percent_decode-nil, percent_decode_not_percent}
use Rattle.git_syntax.specs.Bytes.{plus_sign, FreeOf, space}
use Rattle.git_syntax.specs.Escapes.{begins_with_digits}
use Rattle.git_laws.specs.Components.{with_spaces}
use Rattle.gix_url.specs.Internal.Meanings.{denoted_by}
use Rattle.git_laws.proofs.ComponentCuts.ComponentLemmas.{spaces_free}
use Rattle.git_syntax.proofs.Texts.EscapeLemmas.{decode_byte, decode_broken, decode_escape, digits_before}

-- a byte that parts a text: it is neither `%` nor a hexadecimal
-- digit, so it neither begins an escape nor ends one
pub record Parts (c : ℕ) : Type 0 where
  pub digit : is_digit c 16 ≡ false
  pub percent : (c == 37) ≡ false

kept_around : (b : ℕ) (bs ys : List ℕ) (c : ℕ) → percent_decode (b ∷ (bs ++ c ∷ ys)) ≡ b ∷ percent_decode (bs ++ c ∷ ys) → percent_decode (b ∷ bs) ≡ b ∷ percent_decode bs → percent_decode (bs ++ c ∷ ys) ≡ percent_decode bs ++ c ∷ percent_decode ys → percent_decode (b ∷ (bs ++ c ∷ ys)) ≡ percent_decode (b ∷ bs) ++ c ∷ percent_decode ys
kept_around b bs ys c whole front rest = whole ∙ ap (λ t. b ∷ t) rest ∙ sym (ap (λ t. t ++ c ∷ percent_decode ys) front)

-- a byte that begins no escape stays, and begins none before the delimiter either
still_broken : (b : ℕ) (bs ys : List ℕ) (c : ℕ) → Parts c → begins_with_digits bs ≡ false → percent_decode (bs ++ c ∷ ys) ≡ percent_decode bs ++ c ∷ percent_decode ys → percent_decode (b ∷ (bs ++ c ∷ ys)) ≡ percent_decode (b ∷ bs) ++ c ∷ percent_decode ys
still_broken b bs ys c parts broken rest =
    let whole : begins_with_digits (bs ++ c ∷ ys) ≡ false = false_from_ne_true _ (λ e. both_ways _ broken (digits_before bs ys c parts.digit e)) in
    kept_around b bs ys c (decode_broken b (bs ++ c ∷ ys) whole) (decode_broken b bs broken) rest

other_around : (b : ℕ) (bs ys : List ℕ) (c : ℕ) → (b == 37) ≡ false → percent_decode (bs ++ c ∷ ys) ≡ percent_decode bs ++ c ∷ percent_decode ys → percent_decode (b ∷ (bs ++ c ∷ ys)) ≡ percent_decode (b ∷ bs) ++ c ∷ percent_decode ys
other_around b bs ys c other rest = kept_around b bs ys c (decode_byte b (bs ++ c ∷ ys) other) (decode_byte b bs other) rest

escape_around : (b high low : ℕ) (rest ys : List ℕ) (c : ℕ) → (b == 37) ≡ true → begins_with_digits (high ∷ low ∷ rest) ≡ true → percent_decode (rest ++ c ∷ ys) ≡ percent_decode rest ++ c ∷ percent_decode ys → percent_decode (b ∷ high ∷ low ∷ (rest ++ c ∷ ys)) ≡ percent_decode (b ∷ high ∷ low ∷ rest) ++ c ∷ percent_decode ys
escape_around b high low rest ys c percent digits parts =
    let (h, l) = and_parts (is_digit high 16) (is_digit low 16) digits in
    decode_escape b high low (rest ++ c ∷ ys) percent h l
    ∙ ap (λ t. (16 * digit_value high + digit_value low) ∷ t) parts
    ∙ sym (ap (λ t. t ++ c ∷ percent_decode ys) (decode_escape b high low rest percent h l))

-- the texts around a delimiter are decoded apart from each other, broken escapes in them included
pub decode_around : (xs ys : List ℕ) (c : ℕ) → Parts c → percent_decode (xs ++ c ∷ ys) ≡ percent_decode xs ++ c ∷ percent_decode ys
decode_around [] ys c parts = decode_byte c ys parts.percent ∙ sym (ap (λ front. front ++ c ∷ percent_decode ys) percent_decode-nil)
decode_around (b ∷ []) ys c parts = still_broken b [] ys c parts refl (decode_around [] ys c parts)
decode_around (b ∷ d ∷ []) ys c parts = still_broken b (d ∷ []) ys c parts refl (decode_around (d ∷ []) ys c parts)
decode_around (b ∷ high ∷ low ∷ rest) ys c parts = ⊎_elim
    (λ percent. ⊎_elim
    (λ digits. escape_around b high low rest ys c percent digits (decode_around rest ys c parts))
    (λ broken. still_broken b (high ∷ low ∷ rest) ys c parts broken (decode_around (high ∷ low ∷ rest) ys c parts))
    (cases_Bool (begins_with_digits (high ∷ low ∷ rest))))
    (λ other. other_around b (high ∷ low ∷ rest) ys c other (decode_around (high ∷ low ∷ rest) ys c parts))
    (cases_Bool (b == 37))

-- a byte that begins no escape decodes to one byte: another than `%`
pub decoded_other : (b : ℕ) (bs : List ℕ) → (b ≡ 37 → ⊥) → length (percent_decode (b ∷ bs)) ≡ length (percent_decode bs) + 1
decoded_other b bs other =
    let one = ap length (percent_decode_not_percent b bs other) in
    omega (arith, one)

-- or one without two digits after it
pub decoded_broken : (b : ℕ) (bs : List ℕ) → begins_with_digits bs ≡ false → length (percent_decode (b ∷ bs)) ≡ length (percent_decode bs) + 1
decoded_broken b bs broken =
    let one = ap length (decode_broken b bs broken) in
    omega (arith, one)

-- so does an escape, with its digits
pub decoded_escape : (b : ℕ) (bs : List ℕ) → b ≡ 37 → begins_with_digits bs ≡ true → length (percent_decode (b ∷ bs)) ≡ length (percent_decode (drop 2 bs)) + 1
decoded_escape b [] percent digits = absurd (cc)
decoded_escape b (c ∷ []) percent digits = absurd (cc)
decoded_escape b (high ∷ low ∷ rest) percent digits =
    let (h, l) = and_parts (is_digit high 16) (is_digit low 16) digits in
    let one = ap length (decode_escape b high low rest (eq-eqb b 37 percent) h l) in
    omega (arith, one)

-- nothing decodes to nothing
pub decoded_none : (bs : List ℕ) → length bs < 1 → length (percent_decode bs) ≡ 0
decoded_none [] short = ap length percent_decode-nil
decoded_none (b ∷ bs) short = absurd (omega (arith, short))

-- ---- the meaning of pieces

-- the empty text denotes itself
pub denoted-nil : (escaped : Bool) → denoted_by escaped [] ≡ []
denoted-nil true = percent_decode-nil
denoted-nil false = refl

-- the texts around a delimiter denote the texts around it in the meaning of the whole
pub denoted_around : (escaped : Bool) (xs ys : List ℕ) (c : ℕ) → Parts c → denoted_by escaped (xs ++ c ∷ ys) ≡ denoted_by escaped xs ++ c ∷ denoted_by escaped ys
denoted_around true xs ys c parts = decode_around xs ys c parts
denoted_around false xs ys c parts = refl

-- so the front is as long a front of the meaning of the whole
pub denoted_front : (escaped : Bool) (whole denoted xs ys : List ℕ) (c at : ℕ) → Parts c → denoted ≡ denoted_by escaped whole → whole ≡ xs ++ c ∷ ys → at ≡ length (denoted_by escaped xs) → take at denoted ≡ denoted_by escaped xs
denoted_front escaped whole denoted xs ys c at parts e cut size =
    let split = e ∙ ap (denoted_by escaped) cut ∙ denoted_around escaped xs ys c parts in
    ap (take at) split ∙ take_at (denoted_by escaped xs) (c ∷ denoted_by escaped ys) at (sym size)

-- the text after the delimiter
pub denoted_after : (escaped : Bool) (whole denoted xs ys : List ℕ) (c at : ℕ) → Parts c → denoted ≡ denoted_by escaped whole → whole ≡ xs ++ c ∷ ys → at ≡ length (denoted_by escaped xs) → drop (at + 1) denoted ≡ denoted_by escaped ys
denoted_after escaped whole denoted xs ys c at parts e cut size =
    let front = denoted_by escaped xs in
    let split = e ∙ ap (denoted_by escaped) cut ∙ denoted_around escaped xs ys c parts ∙ sym (append_assoc front (c ∷ []) (denoted_by escaped ys)) in
    ap (drop (at + 1)) split ∙ drop_at (front ++ c ∷ []) (denoted_by escaped ys) (at + 1) (omega (arith, size, length-append front (c ∷ [])))

-- the cut is in the meaning of the whole
pub denoted_within : (escaped : Bool) (whole denoted xs ys : List ℕ) (c at : ℕ) → Parts c → denoted ≡ denoted_by escaped whole → whole ≡ xs ++ c ∷ ys → at ≡ length (denoted_by escaped xs) → at + 1 ≤ length denoted
denoted_within escaped whole denoted xs ys c at parts e cut size =
    let split = e ∙ ap (denoted_by escaped) cut ∙ denoted_around escaped xs ys c parts in
    omega (arith, size, ap length split, length-append (denoted_by escaped xs) (c ∷ denoted_by escaped ys))

-- ---- spaces

-- with each `+` a space, the texts around the first `+` denote the texts around that space
pub denoted_around_plus : (escaped : Bool) (xs ys : List ℕ) → FreeOf plus_sign xs → denoted_by escaped (with_spaces (xs ++ plus_sign ∷ ys)) ≡ denoted_by escaped xs ++ space ∷ denoted_by escaped (with_spaces ys)
denoted_around_plus escaped xs ys free =
    let parts : Parts space = record { digit = refl; percent = refl } in
    ap (denoted_by escaped) (map-append (λ b. if b == plus_sign then space else b) xs (plus_sign ∷ ys) ∙ ap (λ t. t ++ space ∷ with_spaces ys) (spaces_free xs free))
    ∙ denoted_around escaped xs (with_spaces ys) space parts

-- a text without `+` denotes the same
pub denoted_spaces : (escaped : Bool) (xs : List ℕ) → FreeOf plus_sign xs → denoted_by escaped (with_spaces xs) ≡ denoted_by escaped xs
denoted_spaces escaped xs free = ap (denoted_by escaped) (spaces_free xs free)

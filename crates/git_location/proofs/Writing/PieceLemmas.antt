-- Pieces of a text: the text of escapes and written percents, and its length.
use Rattle.std.proofs.Common.{⊎_elim, ◌≡◌, ◌↔◌, ℕ, ◌+◌, ◌*◌, ◌<◌, ◌≤◌, Bool, true, false, not, cond, ◌==◌, Option, Some, None, Result, Ok, Err, List, [], ◌∷◌, ◌++◌, length, take, drop, get_or, inl, inr, refl, sym, ap, ◌∙◌, arith, append_assoc, length-append}
use Rattle.std.specs.Borrow.{Bor}
use Rattle.std.specs.Char.{is_digit}
use Rattle.std.specs.List.{count_by, list_all, position_or_len}
use Rattle.std.proofs.lemmas.Bool.{and_parts, both_ways, cases_Bool, eqb-true, not-true, cond-true, cond-false, or_cases, or_left, or_right}
use Rattle.std.proofs.lemmas.Bool.Decides.{nat_tests}
use Rattle.std.proofs.lemmas.List.Sums.{sum_by-cons, fails_before_first, passes_at_first, split_at_first}
use Rattle.std.proofs.lemmas.Str.Pattern.{IsSplitOnceResult, split_once_first}
use Rattle.percent_encoding.specs.declared.ascii_set.AsciiSet.{AsciiSet}
use Rattle.percent_encoding.specs.AsciiSet.{should_percent_encode}
use Rattle.percent_encoding.specs.Percent.{percent_decode, percent_encode, percent_encode_byte}
use Rattle.percent_encoding.proofs.PercentLemmas.{percent_decode-nil, percent_encode-nil, percent_encode_escaped, percent_encode_kept}
use Rattle.std.specs.Prelude.{OnOk}
use Rattle.git_location.specs.declared.write_error.WriteFault.{WriteFault}
use Rattle.git_syntax.specs.Bytes.{percent_sign, FreeOf}
use Rattle.git_syntax.specs.Internal.Cuts.{CutsAt}
use Rattle.git_syntax.specs.Escapes.{begins_with_digits, escaped_percents, has_percent, is_sound}
use Rattle.git_syntax.proofs.Texts.CutLemmas.{lacks_before, lacks_after}
use Rattle.git_syntax.proofs.Texts.EscapeLemmas.{decode_broken, decode_byte, decode_escape, digit_not_percent, escaped_percents-append, escaped_percents_kept, sound_head, sound_kept}

-- ---- lengths

-- the count over a list is that of its first element and that of the others
pub counted : (p : ℕ → Bool) (b : ℕ) (bs : List ℕ) (n : ℕ) → cond (p b) 1 0 ≡ n → count_by p (b ∷ bs) ≡ n + count_by p bs
counted p b bs n h = sum_by-cons (λ x. cond (p x) 1 0) b bs ∙ ap (λ m. m + count_by p bs) h

-- the escape of a byte has three bytes
length_escape : (b : ℕ) → length (percent_encode_byte b) ≡ 3
unfolding percent_encode_byte
length_escape b = refl

-- each escape makes a text longer by two
pub length_escapes : (set : AsciiSet) (bs : List ℕ) → length (percent_encode set bs) ≡ length bs + 2 * count_by (should_percent_encode set) bs
length_escapes set [] = ap length (percent_encode-nil set)
length_escapes set (b ∷ bs) =
    let rest = length_escapes set bs in
    elim (cases_Bool (should_percent_encode set b)) [
      | inl escaped ↦
          let whole = ap length (percent_encode_escaped set b bs escaped) ∙ length-append (percent_encode_byte b) (percent_encode set bs) in
          let three = length_escape b in
          let one = counted (should_percent_encode set) b bs 1 (cond-true {A = ℕ} (should_percent_encode set b) 1 0 escaped) in
          omega (arith, whole, three, one, rest)
      | inr kept ↦
          let whole = ap length (percent_encode_kept set b bs kept) in
          let none = counted (should_percent_encode set) b bs 0 (cond-false {A = ℕ} (should_percent_encode set b) 1 0 kept) in
          omega (arith, whole, none, rest)
    ]

-- and so does each written percent
pub length_percents : (bs : List ℕ) → length (escaped_percents bs) ≡ length bs + 2 * count_by (λ b. b == percent_sign) bs
length_percents [] = refl
length_percents (b ∷ bs) =
    let rest = length_percents bs in
    elim (cases_Bool (b == percent_sign)) [
      | inl escaped ↦
          let whole = ap length (cond-true (b == percent_sign) (37 ∷ 50 ∷ 53 ∷ escaped_percents bs) (b ∷ escaped_percents bs) escaped) in
          let one = counted (λ d. d == percent_sign) b bs 1 (cond-true {A = ℕ} (b == percent_sign) 1 0 escaped) in
          omega (arith, whole, one, rest)
      | inr kept ↦
          let whole = ap length (cond-false (b == percent_sign) (37 ∷ 50 ∷ 53 ∷ escaped_percents bs) (b ∷ escaped_percents bs) kept) in
          let none = counted (λ d. d == percent_sign) b bs 0 (cond-false {A = ℕ} (b == percent_sign) 1 0 kept) in
          omega (arith, whole, none, rest)
    ]

-- ---- decoded texts

-- the number of `%` of a text
abbrev signs : List ℕ → ℕ
signs bs = count_by (λ b. b == percent_sign) bs

one_sign : (b : ℕ) (bs : List ℕ) → (b == percent_sign) ≡ true → signs (b ∷ bs) ≡ 1 + signs bs
one_sign b bs is = counted (λ d. d == percent_sign) b bs 1 (cond-true {A = ℕ} (b == percent_sign) 1 0 is)

no_sign : (b : ℕ) (bs : List ℕ) → (b == percent_sign) ≡ false → signs (b ∷ bs) ≡ 0 + signs bs
no_sign b bs other = counted (λ d. d == percent_sign) b bs 0 (cond-false {A = ℕ} (b == percent_sign) 1 0 other)

-- a text has a `%` if their number isn't 0
some_signs : (bs : List ℕ) → (0 < signs bs) ↔ (has_percent bs ≡ true)
some_signs [] = (λ some. absurd (omega (arith, some)), λ wrong. absurd (cc))
some_signs (b ∷ bs) = elim (cases_Bool (b == percent_sign)) [
  | inl is ↦ (λ some. or_left _ _ is, λ has. omega (arith, one_sign b bs is))
  | inr other ↦ (
    λ some. or_right _ _ ((some_signs bs).0 (omega (arith, some, no_sign b bs other))),
    λ has. omega (arith, no_sign b bs other, (some_signs bs).1 (⊎_elim (λ is. absurd (both_ways _ other is)) (λ others. others) (or_cases _ _ has))),
  )
]

-- a text is no longer than its decoding and two bytes for each `%`, and is as long exactly if it is sound
abbrev LengthBySigns : List ℕ → Type 0
LengthBySigns bs = (length bs ≤ length (percent_decode bs) + 2 * signs bs)
    × ((length bs ≡ length (percent_decode bs) + 2 * signs bs) ↔ (is_sound bs ≡ true))

-- so is a text with one byte more
length_kept : (b : ℕ) (bs : List ℕ) → (b == percent_sign) ≡ false → LengthBySigns bs → LengthBySigns (b ∷ bs)
length_kept b bs other h =
    let decoded = ap length (decode_byte b bs other) in
    let none = no_sign b bs other in (
      omega (arith, h.0, decoded, none),
      (
        λ same. sound_kept b bs other ∙ h.1.0 (omega (arith, same, decoded, none)),
        λ sound. omega (arith, h.1.1 (sym (sound_kept b bs other) ∙ sound), decoded, none),
      ),
    )

-- with a broken escape
length_broken : (b : ℕ) (bs : List ℕ) → (b == percent_sign) ≡ true → begins_with_digits bs ≡ false → LengthBySigns bs → LengthBySigns (b ∷ bs)
length_broken b bs is broken h =
    let decoded = ap length (decode_broken b bs broken) in
    let one = one_sign b bs is in (
      omega (arith, h.0, decoded, one),
      (
        λ same. absurd (omega (arith, same, h.0, decoded, one)),
        λ sound. absurd (both_ways _ broken (rw is at (sound_head b bs sound))),
      ),
    )

-- and with an escape
escape_kept : (b high low : ℕ) (bs : List ℕ) → (b == percent_sign) ≡ true → is_digit high 16 ≡ true → is_digit low 16 ≡ true → is_sound (b ∷ high ∷ low ∷ bs) ≡ is_sound bs
escape_kept b high low bs is first second = grind (arith, nat_tests)

length_escape_more : (b high low : ℕ) (bs : List ℕ) → (b == percent_sign) ≡ true → is_digit high 16 ≡ true → is_digit low 16 ≡ true → LengthBySigns bs → LengthBySigns (b ∷ high ∷ low ∷ bs)
length_escape_more b high low bs is first second h =
    let decoded = ap length (decode_escape b high low bs is first second) in
    let one = one_sign b (high ∷ low ∷ bs) is in
    let none = no_sign high (low ∷ bs) (digit_not_percent high first) in
    let none_too = no_sign low bs (digit_not_percent low second) in
    let kept = escape_kept b high low bs is first second in (
      omega (arith, h.0, decoded, one, none, none_too),
      (
        λ same. kept ∙ h.1.0 (omega (arith, same, decoded, one, none, none_too)),
        λ sound. omega (arith, h.1.1 (sym kept ∙ sound), decoded, one, none, none_too),
      ),
    )

length_by_signs : (bs : List ℕ) → LengthBySigns bs
length_by_signs [] =
    let decoded = ap length percent_decode-nil in
    (omega arith, (λ same. refl, λ sound. omega (arith, decoded)))
length_by_signs (b ∷ []) = elim (cases_Bool (b == percent_sign)) [
  | inl is ↦ length_broken b [] is refl (length_by_signs [])
  | inr other ↦ length_kept b [] other (length_by_signs [])
]
length_by_signs (b ∷ c ∷ []) = elim (cases_Bool (b == percent_sign)) [
  | inl is ↦ length_broken b (c ∷ []) is refl (length_by_signs (c ∷ []))
  | inr other ↦ length_kept b (c ∷ []) other (length_by_signs (c ∷ []))
]
length_by_signs (b ∷ high ∷ low ∷ bs) =
    let tail = length_by_signs (high ∷ low ∷ bs) in
    let rest = length_by_signs bs in
    elim (cases_Bool (b == percent_sign)) [
      | inl is ↦ ⊎_elim
          (λ digits.
          let parts = and_parts _ _ digits in
          length_escape_more b high low bs is parts.0 parts.1 rest)
          (λ broken. length_broken b (high ∷ low ∷ bs) is broken tail)
          (cases_Bool (begins_with_digits (high ∷ low ∷ bs)))
      | inr other ↦ length_kept b (high ∷ low ∷ bs) other tail
    ]

-- a text has a `%` and is sound exactly if each `%`, of which it has some, makes it longer than its decoding by
-- two bytes
pub escapes_by_length : (text decoded : List ℕ) (n : ℕ) → percent_decode text ≡ decoded → n ≡ count_by (λ b. b == percent_sign) text → ((0 < n) × (length text ≡ length decoded + 2 * n)) ↔ ((is_sound text ≡ true) × (has_percent text ≡ true))
escapes_by_length text decoded n decodes count =
    let by_length = length_by_signs text in
    let long = ap length decodes in (
      λ (some, same). (by_length.1.0 (omega (arith, same, long, count)), (some_signs text).0 (omega (arith, some, count))),
      λ (sound, has). (omega (arith, (some_signs text).1 has, count), omega (arith, by_length.1.1 sound, long, count)),
    )

-- a text of which no byte has to be escaped is written as it is
pub kept_text : (set : AsciiSet) (bs : List ℕ) → list_all (λ b. not (should_percent_encode set b)) bs ≡ true → percent_encode set bs ≡ bs
kept_text set [] all = percent_encode-nil set
kept_text set (b ∷ bs) all =
    let (first, others) = and_parts (not (should_percent_encode set b)) (list_all (λ c. not (should_percent_encode set c)) bs) all in
    percent_encode_kept set b bs (not-true (should_percent_encode set b) first) ∙ ap (λ x. b ∷ x) (kept_text set bs others)

-- ---- percents

-- a text is written as the text before the first `%`, its escape, and the text that is written after it
pub percents_cut : (t x y : List ℕ) → FreeOf percent_sign x → t ≡ x ++ percent_sign ∷ y → escaped_percents t ≡ x ++ 37 ∷ 50 ∷ 53 ∷ escaped_percents y
percents_cut t x y free whole =
    ap escaped_percents whole ∙ escaped_percents-append x (percent_sign ∷ y) ∙ ap (λ z. z ++ escaped_percents (percent_sign ∷ y)) (escaped_percents_kept x free)

-- ---- the first byte

-- the parts that `split_once` answers, as a cut
pub split_cuts : (c : ℕ) (bs : List ℕ) (r : Option (Bor (List ℕ) × Bor (List ℕ))) → IsSplitOnceResult c bs r → c < 128 → CutsAt c bs r
split_cuts c bs None h small =
    let none : position_or_len (λ b. b == c) bs ≡ length bs = split_once_first c bs None h small in
    lacks_after (λ b. b == c) bs 0 (λ k l m e. both_ways (get_or bs k 0 == c) (fails_before_first (λ b. b == c) bs k 0 (omega (arith, none))) e)
split_cuts c bs (Some x) h small =
    let at = position_or_len (λ b. b == c) bs in
    let found = split_once_first c bs (Some x) h small in
    let front : FreeOf c (take at bs) = lacks_before (λ b. b == c) bs at (λ k l e. both_ways (get_or bs k 0 == c) (fails_before_first (λ b. b == c) bs k 0 l) e) in
    let here : get_or bs at 0 ≡ c = eqb-true (get_or bs at 0) c (passes_at_first (λ b. b == c) bs 0 found.0) in
    rw (found.1, found.2) (front, split_at_first (λ b. b == c) bs 0 found.0 ∙ ap (λ b. take at bs ++ b ∷ drop (at + 1) bs) here)

-- ---- texts that are put

-- a text of which one slice more was returned
pub written_on : (whole done rest chunk left : List ℕ) → whole ≡ done ++ rest → rest ≡ chunk ++ left → whole ≡ (done ++ chunk) ++ left
written_on whole done rest chunk left first second = first ∙ (ap (λ x. done ++ x) second ∙ sym (append_assoc done chunk left))

-- ---- results

-- the consequence of a call that succeeds
pub on_ok : {T E P Q : Type 0} (r : Result T E) → (P → Q) → OnOk r P → OnOk r Q
on_ok (Ok x) follows h = follows h
on_ok (Err e) follows h = tt

-- equal results have the same fault
pub same_fault : {A : Type 0} (r : Result A WriteFault) (f g : WriteFault) → Err f ≡ r → r ≡ Err g → f ≡ g
same_fault r f g h k = let e : Err f ≡ Err g = h ∙ k in cc

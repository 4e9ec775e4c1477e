-- Escaped texts: when they are sound, how they decode in parts, and how they are UTF-8 in parts.
use Rattle.std.proofs.Common.{◌≡◌, ◌∙◌, ◌<◌, ◌≤◌, ◌+◌, ℕ, zero, suc, Bool, true, false, not, ◌&&◌, ◌||◌, ◌==◌, List, [], ◌∷◌, ◌++◌, length, take, ◌*◌, nat_lt, All, IsAscii, get_or, arith, refl, sym, ap, subst, ⊎_elim, inl, inr}
use Rattle.std.specs.Char.{is_digit, digit_value, is_whitespace, encode_utf8}
use Rattle.std.specs.Str.{IsUtf8, encode_utf8_all}
use Rattle.std.proofs.lemmas.Bool.{cases_Bool, and_parts, and_from, or_parts, or_from, false_from_ne_true, or_cases, or_left, or_right, not-true, both_ways, eqb-true, eqb-false, ltb-true, false≢true}
use Rattle.std.proofs.lemmas.Bool.Decides.{nat_tests}
use Rattle.std.proofs.lemmas.List.{length-append, nil_from_length, take_at, drop_at, get_or_at}
use Rattle.std.proofs.lemmas.Str.{IsUtf8-append, IsUtf8-take, IsUtf8-drop, IsUtf8-from_ascii, IsCharBoundary-from_take, IsCharBoundary-before_ascii, chars-append, chars-IsAscii}
use lib.Utf8.{scalar, scalars}
use Rattle.bstr.specs.Utf8.{decoded}
use Rattle.bstr.proofs.lemmas.PieceLemmas.{decoded_by-cut, piece-bounds}
use Rattle.std.proofs.lemmas.Str.Ascii.{IsAscii-from_all}
use Rattle.std.proofs.lemmas.List.Elements.{All-cons, All-nil, All-append, All-weaker}
use Rattle.std.specs.List.{list_any, list_all}
use Rattle.std.specs.Fmt.{digit_glyph}
use Rattle.std.proofs.lemmas.List.Folds.{list_any_none, list_any-append}
use Rattle.percent_encoding.specs.declared.ascii_set.AsciiSet.{AsciiSet}
use Rattle.percent_encoding.specs.AsciiSet.{contains, should_percent_encode}
use Rattle.percent_encoding.proofs.AsciiSetLemmas.{ascii_from_kept, outside_from_kept, kept_from_outside}
use Rattle.percent_encoding.specs.Percent.{percent_decode, percent_encode, percent_encode_byte}
use Rattle.percent_encoding.proofs.PercentLemmas.{IsEscapeByte, All-percent_encode, All-percent_encode_byte, percent_encode_nonempty, IsAscii-percent_encode, percent_encode-nil, percent_encode_escaped, percent_encode_kept, round_trip, percent_decode-nil, percent_decode_not_percent, percent_decode_escape, length-percent_decode, IsByte}
use Rattle.git_syntax.specs.Bytes.{newline, percent_sign, Lacks, FreeOf, LacksWhiteSpace}
use Rattle.git_syntax.specs.Escapes.{is_sound, begins_with_digits, escaped_percents}
use Rattle.git_syntax.proofs.Texts.CutLemmas.{free_or_cut}

-- ---- walks over a decoding

-- four bytes are enough to read the first character
pub decoded_window : (bs : List ℕ) → decoded (take 4 bs) ≡ decoded bs
decoded_window [] = refl
decoded_window (a ∷ []) = refl
decoded_window (a ∷ b ∷ []) = refl
decoded_window (a ∷ b ∷ c ∷ []) = refl
decoded_window (a ∷ b ∷ c ∷ d ∷ bs) =
    let all = a ∷ b ∷ c ∷ d ∷ bs in
    let bounds = piece-bounds all (omega arith) in
    decoded_by-cut 4 (length all) a b c d b c d bounds.1 (omega arith) (omega arith) (λ _. refl) (λ _. refl) (λ _. refl)

-- ---- soundness

-- a byte that isn't `%` begins no escape
pub sound_kept : (b : ℕ) (bs : List ℕ) → (b == 37) ≡ false → is_sound (b ∷ bs) ≡ is_sound bs
sound_kept b bs other = grind arith

-- a hexadecimal digit isn't `%`
pub digit_not_percent : (b : ℕ) → is_digit b 16 ≡ true → (b == 37) ≡ false
digit_not_percent b digit = grind (arith, nat_tests)

-- a text is sound if its first byte begins no broken escape and the rest is sound
pub sound_step : (b : ℕ) (bs : List ℕ) → is_sound (b ∷ bs) ≡ ((not (b == 37) || begins_with_digits bs) && is_sound bs)
sound_step b bs = grind (arith, nat_tests)

-- the first byte of a sound text begins no broken escape
pub sound_head : (b : ℕ) (bs : List ℕ) → is_sound (b ∷ bs) ≡ true → (not (b == 37) || begins_with_digits bs) ≡ true
sound_head b bs sound = (and_parts _ _ (sym (sound_step b bs) ∙ sound)).0

-- the text after the first byte of a sound text is sound
pub sound_tail : (b : ℕ) (bs : List ℕ) → is_sound (b ∷ bs) ≡ true → is_sound bs ≡ true
sound_tail b bs sound = (and_parts _ _ (sym (sound_step b bs) ∙ sound)).1

-- a sound text after a byte that begins no broken escape
pub sound_cons : (b : ℕ) (bs : List ℕ) → (not (b == 37) || begins_with_digits bs) ≡ true → is_sound bs ≡ true → is_sound (b ∷ bs) ≡ true
sound_cons b bs head rest = sound_step b bs ∙ and_from _ _ head rest

pub digits-append : (xs ys : List ℕ) → begins_with_digits xs ≡ true → begins_with_digits (xs ++ ys) ≡ true
digits-append xs ys digits = grind arith

-- two digits before a byte that is none are digits without it
pub digits_before : (xs ys : List ℕ) (c : ℕ) → is_digit c 16 ≡ false → begins_with_digits (xs ++ c ∷ ys) ≡ true → begins_with_digits xs ≡ true
digits_before xs ys c other digits = grind arith

-- sound texts joined are sound
pub sound-append : (xs ys : List ℕ) → is_sound xs ≡ true → is_sound ys ≡ true → is_sound (xs ++ ys) ≡ true
sound-append [] ys front rest = rest
sound-append (x ∷ xs) ys front rest =
    let head = ⊎_elim (λ h. or_left _ _ h) (λ h. or_right _ _ (digits-append xs ys h)) (or_cases _ _ (sound_head x xs front)) in
    sound_cons x (xs ++ ys) head (sound-append xs ys (sound_tail x xs front) rest)

-- a sound text cut before a byte that isn't a hexadecimal digit is sound on both sides
pub sound_parts : (xs ys : List ℕ) (c : ℕ) → is_digit c 16 ≡ false → is_sound (xs ++ c ∷ ys) ≡ true → (is_sound xs ≡ true) × (is_sound (c ∷ ys) ≡ true)
sound_parts [] ys c other sound = (refl, sound)
sound_parts (x ∷ xs) ys c other sound =
    let parts = sound_parts xs ys c other (sound_tail x (xs ++ c ∷ ys) sound) in
    let head = ⊎_elim (λ h. or_left _ _ h) (λ h. or_right _ _ (digits_before xs ys c other h)) (or_cases _ _ (sound_head x (xs ++ c ∷ ys) sound)) in
    (sound_cons x xs head parts.0, parts.1)

-- the same around a byte that isn't a hexadecimal digit, left out of both sides
pub sound_around : (xs ys : List ℕ) (c : ℕ) → is_digit c 16 ≡ false → is_sound (xs ++ c ∷ ys) ≡ true → (is_sound xs ≡ true) × (is_sound ys ≡ true)
sound_around xs ys c other sound = grind (arith, nat_tests, sound_tail, sound_parts)

-- a text with no `%` is sound
pub sound_free : (xs : List ℕ) → FreeOf percent_sign xs → is_sound xs ≡ true
sound_free [] free = refl
sound_free (x ∷ xs) free =
    let parts = or_parts _ _ free in
    sound_kept x xs parts.0 ∙ sound_free xs parts.1

-- ---- decoding

-- a byte that isn't `%` stays
pub decode_byte : (b : ℕ) (bs : List ℕ) → (b == 37) ≡ false → percent_decode (b ∷ bs) ≡ b ∷ percent_decode bs
decode_byte b bs other = percent_decode_not_percent b bs (eqb-false b 37 other)

-- a text with no `%` decodes to itself
pub decode_kept : (xs : List ℕ) → FreeOf percent_sign xs → percent_decode xs ≡ xs
decode_kept [] free = percent_decode-nil
decode_kept (x ∷ xs) free =
    let parts = or_parts _ _ free in
    decode_byte x xs parts.0 ∙ ap (λ rest. x ∷ rest) (decode_kept xs parts.1)

-- only the empty text decodes to nothing
pub decode_empty : (xs : List ℕ) → percent_decode xs ≡ [] → xs ≡ []
decode_empty xs none =
    let bounds = length-percent_decode xs in
    nil_from_length xs (omega (arith, ap length none, bounds.1))

-- an escape is one byte
pub decode_escape : (b high low : ℕ) (rest : List ℕ) → (b == 37) ≡ true → is_digit high 16 ≡ true → is_digit low 16 ≡ true → percent_decode (b ∷ high ∷ low ∷ rest) ≡ (16 * digit_value high + digit_value low) ∷ percent_decode rest
decode_escape b high low rest percent h l = percent_decode_escape b high low rest (eqb-true b 37 percent) (ltb-true _ _ h) (ltb-true _ _ l)

-- a byte with no two digits after it stays, a `%` too
pub decode_broken : (b : ℕ) (bs : List ℕ) → begins_with_digits bs ≡ false → percent_decode (b ∷ bs) ≡ b ∷ percent_decode bs
unfolding percent_decode
decode_broken b bs broken = grind arith

byte_in_parts : (b : ℕ) (bs ys : List ℕ) → (b == 37) ≡ false → percent_decode (bs ++ ys) ≡ percent_decode bs ++ percent_decode ys → percent_decode (b ∷ (bs ++ ys)) ≡ percent_decode (b ∷ bs) ++ percent_decode ys
byte_in_parts b bs ys other h = grind (arith, nat_tests, decode_byte)

escape_in_parts : (b high low : ℕ) (rest ys : List ℕ) → (b == 37) ≡ true → is_digit high 16 ≡ true → is_digit low 16 ≡ true → percent_decode (rest ++ ys) ≡ percent_decode rest ++ percent_decode ys → percent_decode (b ∷ high ∷ low ∷ (rest ++ ys)) ≡ percent_decode (b ∷ high ∷ low ∷ rest) ++ percent_decode ys
escape_in_parts b high low rest ys percent h l parts = grind (arith, nat_tests, decode_escape)

-- the text after a sound text is decoded apart from it
pub decodes_in_parts : (xs ys : List ℕ) → is_sound xs ≡ true → percent_decode (xs ++ ys) ≡ percent_decode xs ++ percent_decode ys
decodes_in_parts [] ys sound = sym (ap (λ front. front ++ percent_decode ys) percent_decode-nil)
decodes_in_parts (b ∷ []) ys sound = byte_in_parts b [] ys (not-true _ sound) (decodes_in_parts [] ys refl)
decodes_in_parts (b ∷ c ∷ []) ys sound =
    let parts = and_parts _ _ sound in
    byte_in_parts b (c ∷ []) ys (not-true _ parts.0) (decodes_in_parts (c ∷ []) ys parts.1)
decodes_in_parts (b ∷ high ∷ low ∷ rest) ys sound =
    let tail = sound_tail b (high ∷ low ∷ rest) sound in
    let last = sound_tail low rest (sound_tail high (low ∷ rest) tail) in
    ⊎_elim
    (λ percent.
    let digits = and_parts _ _ (rw percent at (sound_head b (high ∷ low ∷ rest) sound)) in
    escape_in_parts b high low rest ys percent digits.0 digits.1 (decodes_in_parts rest ys last))
    (λ other. byte_in_parts b (high ∷ low ∷ rest) ys other (decodes_in_parts (high ∷ low ∷ rest) ys tail))
    (cases_Bool (b == 37))

-- ---- encoding

-- a byte of an escape: `%` or an upper-case hexadecimal digit
abbrev pub is_escape_byte : ℕ → Bool
is_escape_byte b = b == 37 || (nat_lt 47 b && nat_lt b 58) || (nat_lt 64 b && nat_lt b 71)

-- a digit of an escape is a hexadecimal digit
pub glyph_is_digit : (d : ℕ) → d < 16 → is_digit (digit_glyph true d) 16 ≡ true
glyph_is_digit d small = grind (arith, nat_tests)

escape_sound : (b : ℕ) (rest : List ℕ) → is_sound rest ≡ true → is_sound (percent_encode_byte b ++ rest) ≡ true
unfolding percent_encode_byte
escape_sound b rest sound = grind (arith, nat_tests, glyph_is_digit, and_from)

-- a text written by a set that has `%` is sound
pub encode_sound : (set : AsciiSet) (t : List ℕ) → contains set 37 ≡ true → is_sound (percent_encode set t) ≡ true
encode_sound set [] has = rw percent_encode-nil refl
encode_sound set (b ∷ bs) has =
    let rest = encode_sound set bs has in
    ⊎_elim
    (λ escaped. rw (percent_encode_escaped set b bs escaped) (escape_sound b (percent_encode set bs) rest))
    (λ kept.
    let other : (b == 37) ≡ false = false_from_ne_true _ (λ e. both_ways _ (outside_from_kept set b kept) (ap (contains set) (eqb-true b 37 e) ∙ has)) in
    rw (percent_encode_kept set b bs kept) (sound_kept b (percent_encode set bs) other ∙ rest))
    (cases_Bool (should_percent_encode set b))

escape_byte_passes : (b : ℕ) → IsEscapeByte b → is_escape_byte b ≡ true
escape_byte_passes b h = grind (arith, nat_tests)

-- the written text lacks the bytes that fail the test both as kept bytes and as bytes of an escape
pub encode_lacks : (test : ℕ → Bool) (set : AsciiSet) (t : List ℕ) → ((b : ℕ) → b < 128 → contains set b ≡ false → test b ≡ false) → ((b : ℕ) → is_escape_byte b ≡ true → test b ≡ false) → Lacks test (percent_encode set t)
encode_lacks test set t kept escapes =
    list_any_none test _ (All-percent_encode (λ b. test b ≡ false) set t (λ b keeps. kept b (ascii_from_kept set b keeps) (outside_from_kept set b keeps)) (λ b escape. escapes b (escape_byte_passes b escape)))

-- only the empty text is written empty
pub encode_empty : (set : AsciiSet) (t : List ℕ) → percent_encode set t ≡ [] → t ≡ []
encode_empty set [] none = refl
encode_empty set (b ∷ bs) none =
    let some = percent_encode_nonempty set (b ∷ bs) (omega arith) in
    absurd (omega (arith, ap length none, some))

-- an ASCII byte that is not in the set stays
pub encode_byte_kept : (set : AsciiSet) (b : ℕ) (bs : List ℕ) → b < 128 → contains set b ≡ false → percent_encode set (b ∷ bs) ≡ b ∷ percent_encode set bs
encode_byte_kept set b bs ascii out = percent_encode_kept set b bs (kept_from_outside set b ascii out)

-- the written text lacks each byte that the text lacks, except the bytes of an escape
pub encode_lacks_kept : (test : ℕ → Bool) (set : AsciiSet) (t : List ℕ) → ((b : ℕ) → is_escape_byte b ≡ true → test b ≡ false) → Lacks test t → Lacks test (percent_encode set t)
encode_lacks_kept test set [] escapes lacks = rw percent_encode-nil refl
encode_lacks_kept test set (b ∷ bs) escapes lacks =
    let parts = or_parts (test b) (list_any test bs) lacks in
    let rest = encode_lacks_kept test set bs escapes parts.1 in
    let escape : Lacks test (percent_encode_byte b) = list_any_none test _ (All-weaker IsEscapeByte (λ c. test c ≡ false) (λ c h. escapes c (escape_byte_passes c h)) (percent_encode_byte b) (All-percent_encode_byte b)) in
    ⊎_elim
    (λ escaped. rw (percent_encode_escaped set b bs escaped, list_any-append test (percent_encode_byte b) (percent_encode set bs)) (or_from _ _ escape rest))
    (λ kept. rw (percent_encode_kept set b bs kept) (or_from _ _ parts.0 rest))
    (cases_Bool (should_percent_encode set b))

-- the text lacks each byte that its writing lacks, if the test passes no byte that is escaped
pub lacks_from_encode : (test : ℕ → Bool) (set : AsciiSet) (t : List ℕ) → ((b : ℕ) → should_percent_encode set b ≡ true → test b ≡ false) → Lacks test (percent_encode set t) → Lacks test t
lacks_from_encode test set [] escaped lacks = refl
lacks_from_encode test set (b ∷ bs) escaped lacks = ⊎_elim
    (λ out.
    let whole : (list_any test (percent_encode_byte b) || list_any test (percent_encode set bs)) ≡ false = sym (list_any-append test (percent_encode_byte b) (percent_encode set bs)) ∙ ap (list_any test) (sym (percent_encode_escaped set b bs out)) ∙ lacks in
    or_from _ _ (escaped b out) (lacks_from_encode test set bs escaped (or_parts _ _ whole).1))
    (λ kept.
    let whole : (test b || list_any test (percent_encode set bs)) ≡ false = ap (list_any test) (sym (percent_encode_kept set b bs kept)) ∙ lacks in
    let parts = or_parts _ _ whole in
    or_from _ _ parts.0 (lacks_from_encode test set bs escaped parts.1))
    (cases_Bool (should_percent_encode set b))

-- the written text lacks a byte of the set that no escape has
pub encode_free : (set : AsciiSet) (t : List ℕ) (c : ℕ) → contains set c ≡ true → is_escape_byte c ≡ false → FreeOf c (percent_encode set t)
encode_free set t c has other = grind (arith, nat_tests, encode_lacks, both_ways, eqb-true, false_from_ne_true)

-- ---- a `%` as its own escape

-- each text is the decoding of its `%` as escapes
pub decode_escaped_percents : (t : List ℕ) → percent_decode (escaped_percents t) ≡ t
decode_escaped_percents [] = percent_decode-nil
decode_escaped_percents (b ∷ bs) =
    let rest = ap (λ t. b ∷ t) (decode_escaped_percents bs) in
    ⊎_elim
    (λ percent. rw percent (decode_escape 37 50 53 (escaped_percents bs) refl refl refl ∙ ap (λ c. c ∷ percent_decode (escaped_percents bs)) (sym (eqb-true b 37 percent)) ∙ rest))
    (λ other. rw other (decode_byte b (escaped_percents bs) other ∙ rest))
    (cases_Bool (b == 37))

-- a text with its `%` as escapes lacks each byte that the text lacks, except `%`, `2` and `5`
pub lacks_escaped_percents : (test : ℕ → Bool) (t : List ℕ) → test 37 ≡ false → test 50 ≡ false → test 53 ≡ false → Lacks test t → Lacks test (escaped_percents t)
lacks_escaped_percents test [] sign two five lacks = refl
lacks_escaped_percents test (b ∷ bs) sign two five lacks =
    let parts = or_parts _ _ lacks in
    let rest = lacks_escaped_percents test bs sign two five parts.1 in
    ⊎_elim
    (λ percent. rw percent (or_from _ _ sign (or_from _ _ two (or_from _ _ five rest))))
    (λ other. rw other (or_from _ _ parts.0 rest))
    (cases_Bool (b == 37))

-- a text with no `%` is its own
pub escaped_percents_kept : (t : List ℕ) → FreeOf percent_sign t → escaped_percents t ≡ t
escaped_percents_kept [] free = refl
escaped_percents_kept (b ∷ bs) free =
    let parts : ((b == 37) ≡ false) × FreeOf percent_sign bs = or_parts _ _ free in
    let other = parts.0 in
    rw other (ap (λ rest. b ∷ rest) (escaped_percents_kept bs parts.1))

-- texts joined are written joined
pub escaped_percents-append : (xs ys : List ℕ) → escaped_percents (xs ++ ys) ≡ escaped_percents xs ++ escaped_percents ys
escaped_percents-append [] ys = refl
escaped_percents-append (x ∷ xs) ys =
    let rest = escaped_percents-append xs ys in
    ⊎_elim (λ percent. rw percent (ap (λ t. 37 ∷ 50 ∷ 53 ∷ t) rest)) (λ other. rw other (ap (λ t. x ∷ t) rest)) (cases_Bool (x == 37))

-- ---- UTF-8 and white space in parts

-- the text after a UTF-8 front of a UTF-8 text is UTF-8
pub utf8_after : (xs ys : List ℕ) → IsUtf8 (xs ++ ys) → IsUtf8 xs → IsUtf8 ys
utf8_after xs ys whole front =
    let within : length xs ≤ length (xs ++ ys) = omega (arith, length-append xs ys) in
    let at = IsCharBoundary-from_take (xs ++ ys) (length xs) whole within (subst IsUtf8 (sym (take_at xs ys (length xs) refl)) front) in
    subst IsUtf8 (drop_at xs ys (length xs) refl) (IsUtf8-drop (xs ++ ys) (length xs) whole at)

-- bytes of a class are ASCII if the class is
pub ascii_class : (test : ℕ → Bool) → ((b : ℕ) → test b ≡ true → b < 128) → (bs : List ℕ) → list_all test bs ≡ true → IsAscii bs
ascii_class test within [] h i = omega arith
ascii_class test within (b ∷ bs) h zero = within b (and_parts (test b) (list_all test bs) h).0
ascii_class test within (b ∷ bs) h (suc i) = ascii_class test within bs (and_parts (test b) (list_all test bs) h).1 i

-- so they are UTF-8
pub utf8_class : (test : ℕ → Bool) → ((b : ℕ) → test b ≡ true → b < 128) → (bs : List ℕ) → list_all test bs ≡ true → IsUtf8 bs
utf8_class test within bs h = IsUtf8-from_ascii bs (ascii_class test within bs h)

-- an ASCII byte as a text
pub ascii_byte : (c : ℕ) → c < 128 → IsAscii (c ∷ [])
ascii_byte c ascii = IsAscii-from_all (c ∷ []) (All-cons (λ b. b < 128) c [] ascii (All-nil (λ b. b < 128)))

-- an ASCII byte is UTF-8
pub utf8_byte : (c : ℕ) → c < 128 → IsUtf8 (c ∷ [])
utf8_byte c ascii = IsUtf8-from_ascii (c ∷ []) (ascii_byte c ascii)

-- a UTF-8 text cut before an ASCII byte is UTF-8 on both sides
pub utf8_seam : (xs ys : List ℕ) (c : ℕ) → IsUtf8 (xs ++ c ∷ ys) → c < 128 → IsUtf8 xs × IsUtf8 (c ∷ ys)
utf8_seam xs ys c whole ascii =
    let all = xs ++ c ∷ ys in
    let byte : get_or all (length xs) 0 ≡ c = get_or_at xs c ys 0 (length xs) refl in
    let at = IsCharBoundary-before_ascii all (length xs) (omega (arith, length-append xs (c ∷ ys))) (omega arith) in (
      subst IsUtf8 (take_at xs (c ∷ ys) (length xs) refl) (IsUtf8-take all (length xs) whole at),
      subst IsUtf8 (drop_at xs (c ∷ ys) (length xs) refl) (IsUtf8-drop all (length xs) whole at),
    )

-- the same around the byte, left out of both sides
pub utf8_parts : (xs ys : List ℕ) (c : ℕ) → IsUtf8 (xs ++ c ∷ ys) → c < 128 → IsUtf8 xs × IsUtf8 ys
utf8_parts xs ys c whole ascii =
    let parts = utf8_seam xs ys c whole ascii in
    (parts.0, utf8_after (c ∷ []) ys parts.1 (utf8_byte c ascii))

-- UTF-8 texts joined by an ASCII byte are UTF-8
pub utf8_joined : (xs ys : List ℕ) (c : ℕ) → IsUtf8 xs → c < 128 → IsUtf8 ys → IsUtf8 (xs ++ c ∷ ys)
utf8_joined xs ys c front ascii rest = IsUtf8-append xs (c ∷ ys) front (IsUtf8-append (c ∷ []) ys (utf8_byte c ascii) rest)

-- two parts lack white space if their whole does
pub white_space_parts : (xs ys : List ℕ) → IsUtf8 xs → LacksWhiteSpace (xs ++ ys) → LacksWhiteSpace xs × LacksWhiteSpace ys
white_space_parts xs ys front lacks = grind (arith, nat_tests, chars-append, list_any-append, or_parts)

-- texts joined lack white space if both do
pub white_space-append : (xs ys : List ℕ) → IsUtf8 xs → LacksWhiteSpace xs → LacksWhiteSpace ys → LacksWhiteSpace (xs ++ ys)
white_space-append xs ys front first second = grind (arith, nat_tests, chars-append, list_any-append, or_from)

-- the characters of an ASCII text are its bytes
pub white_space_ascii : (t : List ℕ) → IsAscii t → list_any is_whitespace t ≡ false → LacksWhiteSpace t
white_space_ascii t ascii lacks = ap (list_any is_whitespace) (chars-IsAscii t ascii) ∙ lacks

-- an ASCII byte that isn't white space
pub white_space_byte : (c : ℕ) → c < 128 → is_whitespace c ≡ false → LacksWhiteSpace (c ∷ [])
white_space_byte c ascii other = white_space_ascii (c ∷ []) (ascii_byte c ascii) (or_from _ _ other refl)

-- a text without white space holds no line's end
pub no_line : (t : List ℕ) → IsUtf8 t → LacksWhiteSpace t → FreeOf newline t
no_line t utf8 lacks =
    elim (free_or_cut newline t) [
      | inl free ↦ free
      | inr (x, y, first, e) ↦
          let parts = utf8_seam x y newline (subst IsUtf8 e utf8) (omega arith) in
          let suffix = (white_space_parts x (newline ∷ y) parts.0 (subst (λ s. LacksWhiteSpace s) e lacks)).1 in
          let byte = (white_space_parts (newline ∷ []) y (utf8_byte newline (omega arith)) suffix).0 in
          absurd (false≢true (sym (ap (list_any is_whitespace) (sym (chars-IsAscii (newline ∷ []) (ascii_byte newline (omega arith)))) ∙ byte)))
    ]

-- ---- bytes and characters

-- the bytes of a character fit a byte
small_encode : (c : ℕ) → scalar c ≡ true → All IsByte (encode_utf8 c)
unfolding encode_utf8
small_encode c is = grind arith

small_encodes : (cs : List ℕ) → scalars cs ≡ true → All IsByte (encode_utf8_all cs)
small_encodes [] all = All-nil IsByte
small_encodes (c ∷ cs) all =
    let parts = and_parts (scalar c) (scalars cs) all in
    All-append IsByte (encode_utf8 c) (encode_utf8_all cs) (small_encode c parts.0) (small_encodes cs parts.1)

-- a UTF-8 text is made of bytes
pub bytes_from_utf8 : (t : List ℕ) → IsUtf8 t → All (λ b. b < 256) t
bytes_from_utf8 t utf8 = subst (All IsByte) utf8.1.1 (small_encodes utf8.0 utf8.1.0)

-- decoding undoes encoding of a UTF-8 text by a set that has `%`
pub decode_encode_utf8 : (set : AsciiSet) (t : List ℕ) → contains set 37 ≡ true → IsUtf8 t → percent_decode (percent_encode set t) ≡ t
decode_encode_utf8 set t has utf8 = round_trip set t has (bytes_from_utf8 t utf8)

-- the written text is UTF-8
pub utf8_encode : (set : AsciiSet) (t : List ℕ) → IsUtf8 (percent_encode set t)
utf8_encode set t = IsUtf8-from_ascii (percent_encode set t) (IsAscii-percent_encode set t)

space_kept : (set : AsciiSet) (b : ℕ) → ((c : ℕ) → c < 128 → is_whitespace c ≡ true → contains set c ≡ true) → b < 128 → contains set b ≡ false → is_whitespace b ≡ false
space_kept set b spaces ascii kept = false_from_ne_true _ (λ space. both_ways _ kept (spaces b ascii space))

-- a text written by a set that has the ASCII white space lacks white space
pub white_space_encode : (set : AsciiSet) (t : List ℕ) → ((b : ℕ) → b < 128 → is_whitespace b ≡ true → contains set b ≡ true) → LacksWhiteSpace (percent_encode set t)
white_space_encode set t spaces =
    white_space_ascii (percent_encode set t) (IsAscii-percent_encode set t) (encode_lacks is_whitespace set t (λ b ascii kept. space_kept set b spaces ascii kept) (λ b escape. grind (arith, nat_tests)))

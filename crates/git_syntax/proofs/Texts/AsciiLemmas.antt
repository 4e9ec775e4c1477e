-- Texts of printable ASCII, and escapes that decode to ASCII.
use Rattle.std.proofs.Common.{◌≡◌, ◌∙◌, ◌<◌, ◌&&◌, ◌++◌, ◌∷◌, ◌*◌, ◌+◌, ℕ, suc, true, false, List, [], IsAscii, refl, sym, ap, subst, inl, inr, arith}
use Rattle.std.specs.Prelude.{nat_le}
use Rattle.std.specs.Char.{is_digit, digit_value, is_whitespace}
use Rattle.std.specs.Str.{IsUtf8}
use Rattle.std.proofs.lemmas.Bool.{and_parts, cases_Bool}
use Rattle.std.proofs.lemmas.Bool.Decides.{nat_tests}
use Rattle.std.proofs.lemmas.List.Folds.{list_all-append}
use Rattle.std.proofs.lemmas.Str.{IsUtf8-from_ascii}
use Rattle.percent_encoding.specs.Percent.{percent_decode}
use Rattle.git_syntax.specs.Bytes.{percent_sign, FreeOf, LacksWhiteSpace, begins_by}
use Rattle.git_syntax.specs.Escapes.{begins_with_digits, is_printable, is_printable_byte, is_sound}
use Rattle.git_syntax.proofs.Texts.CutLemmas.{free_head_tail, lacks_of_all}
use Rattle.git_syntax.proofs.Texts.EscapeLemmas.{ascii_class, decode_broken, decode_byte, decode_escape, decode_kept, digit_not_percent, sound_kept, sound_step, utf8_class, white_space_ascii}

-- ---- printable texts

-- a printable byte is ASCII
pub printable_ascii : (b : ℕ) → is_printable_byte b ≡ true → b < 128
printable_ascii b printable = grind (arith, nat_tests)

-- and no white space
printable_no_space : (b : ℕ) → is_printable_byte b ≡ true → is_whitespace b ≡ false
printable_no_space b printable = grind (arith, nat_tests)

-- a printable text is UTF-8
pub printable_utf8 : (t : List ℕ) → is_printable t ≡ true → IsUtf8 t
printable_utf8 t printable = utf8_class is_printable_byte printable_ascii t printable

-- a printable text holds no white space
pub printable_white_space : (t : List ℕ) → is_printable t ≡ true → LacksWhiteSpace t
printable_white_space t printable =
    white_space_ascii t (ascii_class is_printable_byte printable_ascii t printable) (lacks_of_all is_printable_byte is_whitespace printable_no_space t printable)

-- the pieces of a printable text are printable
pub printable_parts : (x y : List ℕ) → is_printable (x ++ y) ≡ true → (is_printable x ≡ true) × (is_printable y ≡ true)
printable_parts x y printable = and_parts _ _ (sym (list_all-append is_printable_byte x y) ∙ printable)

-- ---- the first `%`

-- a text is sound if its first `%` has two digits after it and the text after the `%` is sound
pub sound_at_cut : (front suffix : List ℕ) → FreeOf percent_sign front → is_sound (front ++ percent_sign ∷ suffix) ≡ (begins_with_digits suffix && is_sound suffix)
sound_at_cut [] suffix free = sound_step percent_sign suffix
sound_at_cut (b ∷ front) suffix free =
    let (other, more) = free_head_tail percent_sign b front free in sound_kept b (front ++ percent_sign ∷ suffix) other ∙ sound_at_cut front suffix more

-- ---- escapes that decode to ASCII

-- a byte of ASCII in front
pub ascii_cons : (b : ℕ) (t : List ℕ) → b < 128 → IsAscii t → IsAscii (b ∷ t)
ascii_cons b t low h = grind arith

-- an escape whose first digit is below 8 decodes to ASCII
low_escape : (high low : ℕ) → is_digit high 16 ≡ true → is_digit low 16 ≡ true → nat_le 56 high ≡ false → 16 * digit_value high + digit_value low < 128
low_escape high low h l below = grind (arith, nat_tests)

-- so does a `%` before such a digit, whether or not it begins an escape
pub ascii_escape : (suffix : List ℕ) → begins_by (λ b. nat_le 56 b) suffix ≡ false → IsAscii (percent_decode suffix) → IsAscii (percent_decode (percent_sign ∷ suffix))
ascii_escape [] below h = subst IsAscii (sym (decode_broken percent_sign [] refl)) (ascii_cons percent_sign _ (omega arith) h)
ascii_escape (high ∷ []) below h = subst IsAscii (sym (decode_broken percent_sign (high ∷ []) refl)) (ascii_cons percent_sign _ (omega arith) h)
ascii_escape (high ∷ low ∷ rest) below h =
    elim (cases_Bool (begins_with_digits (high ∷ low ∷ rest))) [
      | inr broken ↦ subst IsAscii (sym (decode_broken percent_sign (high ∷ low ∷ rest) broken)) (ascii_cons percent_sign _ (omega arith) h)
      | inl digits ↦
          let (first, second) = and_parts _ _ digits in
          let kept : percent_decode (high ∷ low ∷ rest) ≡ high ∷ low ∷ percent_decode rest =
          decode_byte high (low ∷ rest) (digit_not_percent high first) ∙ ap (λ t. high ∷ t) (decode_byte low rest (digit_not_percent low second)) in
          let left : IsAscii (percent_decode rest) = λ i. subst IsAscii kept h (suc (suc i)) in
          subst IsAscii (sym (decode_escape percent_sign high low rest refl first second)) (ascii_cons _ _ (low_escape high low first second below) left)
    ]

-- a printable text without `%` decodes to ASCII
pub ascii_kept : (t : List ℕ) → is_printable t ≡ true → FreeOf percent_sign t → IsAscii (percent_decode t)
ascii_kept t printable free = subst IsAscii (sym (decode_kept t free)) (ascii_class is_printable_byte printable_ascii t printable)

-- a text that decodes to ASCII decodes to UTF-8
pub ascii_means_utf8 : (t : List ℕ) → IsAscii (percent_decode t) → IsUtf8 (percent_decode t)
ascii_means_utf8 t h = IsUtf8-from_ascii (percent_decode t) h

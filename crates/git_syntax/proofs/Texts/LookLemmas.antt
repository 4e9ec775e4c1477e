-- Tests of texts: escapes that decode to ASCII, and the known facts about the path of a text that was
-- classified.
use Rattle.std.proofs.Common.{◌≡◌, ◌∙◌, ◌++◌, ◌∷◌, ◌&&◌, ◌||◌, ◌==◌, ℕ, Bool, true, false, List, [], IsAscii, append_assoc, codes, refl, sym, ap, subst, inl, inr, arith}
use Rattle.std.specs.Char.{is_digit}
use Rattle.std.specs.Str.{IsUtf8}
use Rattle.std.proofs.lemmas.Bool.{and_parts, cases_Bool, eqb-true, false≢true, or_parts}
use Rattle.std.proofs.lemmas.Bool.Decides.{nat_tests}
use Rattle.percent_encoding.specs.Percent.{percent_decode}
use Rattle.git_syntax.specs.declared.byte_class.ByteClass.{ByteClass}
use Rattle.git_syntax.specs.declared.byte_class.ByteClass.TheVariants.{Plain, Ascii, Escaped, Other}
use Rattle.git_syntax.specs.Bytes.{percent_sign, FreeOf, LacksWhiteSpace, StartsPath, is_path_start}
use Rattle.git_syntax.specs.Escapes.{is_printable, is_printable_byte, is_sound}
use Rattle.git_syntax.specs.Internal.ByteClasses.{HasByteClass, begins_high, has_high_escape, knows_ascii, knows_plain, knows_printable}
use Rattle.git_syntax.proofs.Texts.AsciiLemmas.{ascii_cons, ascii_escape, ascii_kept, ascii_means_utf8, printable_ascii, printable_parts, printable_utf8, printable_white_space}
use Rattle.git_syntax.proofs.Texts.CutLemmas.{free_head_tail}
use Rattle.git_syntax.proofs.Texts.EscapeLemmas.{decode_byte, sound_parts}
use Rattle.git_syntax.proofs.Texts.PlainLemmas.{plain_free, plain_means_utf8, plain_parts, plain_sound, plain_utf8, plain_white_space}

-- ---- high escapes

-- a byte that isn't `%` begins none
pub high_kept : (b : ℕ) (bs : List ℕ) → (b == percent_sign) ≡ false → has_high_escape (b ∷ bs) ≡ has_high_escape bs
high_kept b bs other = rw other refl

-- a text without `%` has none
pub high_free : (t : List ℕ) → FreeOf percent_sign t → has_high_escape t ≡ false
high_free [] free = refl
high_free (b ∷ bs) free = let (other, more) = free_head_tail percent_sign b bs free in high_kept b bs other ∙ high_free bs more

-- the first `%` and the rest decide
pub high_at_cut : (front suffix : List ℕ) → FreeOf percent_sign front → has_high_escape (front ++ percent_sign ∷ suffix) ≡ (begins_high suffix || has_high_escape suffix)
high_at_cut [] suffix free = refl
high_at_cut (b ∷ front) suffix free =
    let (other, more) = free_head_tail percent_sign b front free in high_kept b (front ++ percent_sign ∷ suffix) other ∙ high_at_cut front suffix more

-- the text after a front has none if the whole has none
high_after : (front suffix : List ℕ) → has_high_escape (front ++ suffix) ≡ false → has_high_escape suffix ≡ false
high_after [] suffix low = low
high_after (b ∷ front) suffix low = high_after front suffix (or_parts _ _ low).1

-- ---- decoding

-- a printable text without high escapes decodes to ASCII
pub ascii_decoded : (t : List ℕ) → is_printable t ≡ true → has_high_escape t ≡ false → IsAscii (percent_decode t)
ascii_decoded [] printable low = ascii_kept [] refl refl
ascii_decoded (b ∷ bs) printable low =
    let (first, others) = and_parts (is_printable_byte b) (is_printable bs) printable in
    let (here, suffix) = or_parts (b == percent_sign && begins_high bs) (has_high_escape bs) low in
    let rest = ascii_decoded bs others suffix in
    elim (cases_Bool (b == percent_sign)) [
      | inl percent ↦ subst (λ c. IsAscii (percent_decode (c ∷ bs))) (sym (eqb-true b percent_sign percent)) (ascii_escape bs (rw percent at here) rest)
      | inr other ↦ subst IsAscii (sym (decode_byte b bs other)) (ascii_cons b (percent_decode bs) (printable_ascii b first) rest)
    ]

-- ---- the known facts about a text

-- a text that is known to be printable holds no white space
pub known_white_space : (byte_class : ByteClass) (t : List ℕ) → HasByteClass byte_class t → knows_printable byte_class ≡ true → LacksWhiteSpace t
known_white_space Plain t h known = plain_white_space t h
known_white_space Ascii t h known = printable_white_space t h.printable
known_white_space Escaped t h known = printable_white_space t h.printable
known_white_space Other t h known = absurd (false≢true known)

-- it is sound
pub known_sound : (byte_class : ByteClass) (t : List ℕ) → HasByteClass byte_class t → knows_printable byte_class ≡ true → is_sound t ≡ true
known_sound Plain t h known = plain_sound t h
known_sound Ascii t h known = h.sound
known_sound Escaped t h known = h.sound
known_sound Other t h known = absurd (false≢true known)

-- and UTF-8
pub known_utf8 : (byte_class : ByteClass) (t : List ℕ) → HasByteClass byte_class t → knows_printable byte_class ≡ true → IsUtf8 t
known_utf8 Plain t h known = plain_utf8 t h
known_utf8 Ascii t h known = printable_utf8 t h.printable
known_utf8 Escaped t h known = printable_utf8 t h.printable
known_utf8 Other t h known = absurd (false≢true known)

-- a text that is known to decode to ASCII decodes to UTF-8
pub known_means_utf8 : (byte_class : ByteClass) (t : List ℕ) → HasByteClass byte_class t → knows_ascii byte_class ≡ true → IsUtf8 (percent_decode t)
known_means_utf8 Plain t h known = plain_means_utf8 t h
known_means_utf8 Ascii t h known = ascii_means_utf8 t (ascii_decoded t h.printable h.low)
known_means_utf8 Escaped t h known = absurd (false≢true known)
known_means_utf8 Other t h known = absurd (false≢true known)

-- a text that is known to be plain holds no `%`
pub known_free : (byte_class : ByteClass) (t : List ℕ) → HasByteClass byte_class t → knows_plain byte_class ≡ true → FreeOf percent_sign t
known_free Plain t h known = plain_free t h
known_free Ascii t h known = absurd (false≢true known)
known_free Escaped t h known = absurd (false≢true known)
known_free Other t h known = absurd (false≢true known)

-- ---- the path of a text that was classified

-- a path starts with no digit
start_no_digit : (web : Bool) (b : ℕ) → is_path_start web b ≡ true → is_digit b 16 ≡ false
start_no_digit true b start = grind (arith, nat_tests)
start_no_digit false b start = grind (arith, nat_tests)

-- a path is sound if the whole is
sound_path : (web : Bool) (front path : List ℕ) → StartsPath web path → is_sound (front ++ path) ≡ true → is_sound path ≡ true
sound_path web front [] starts sound = refl
sound_path web front (c ∷ rest) (inl none) sound = absurd (cc)
sound_path web front (c ∷ rest) (inr start) sound = (sound_parts front rest c (start_no_digit web c start) sound).1

-- the known facts about a text hold for the path at its end
known_after : (web : Bool) (byte_class : ByteClass) (front path : List ℕ) → StartsPath web path → HasByteClass byte_class (front ++ path) → HasByteClass byte_class path
known_after web Plain front path starts h = (plain_parts front path h).1
known_after web Ascii front path starts h = record { printable = (printable_parts front path h.printable).1; sound = sound_path web front path starts h.sound; low = high_after front path h.low }
known_after web Escaped front path starts h = record { printable = (printable_parts front path h.printable).1; sound = sound_path web front path starts h.sound }
known_after web Other front path starts h = h

-- so is it of the path of a URL
pub known_path : (web : Bool) (byte_class : ByteClass) (text scheme rest authority path : List ℕ) → text ≡ scheme ++ (codes "://" ++ rest) → rest ≡ authority ++ path → StartsPath web path → HasByteClass byte_class text → HasByteClass byte_class path
known_path web byte_class text scheme rest authority path joined cut starts h =
    let whole : text ≡ (scheme ++ (codes "://" ++ authority)) ++ path =
    joined ∙ ap (λ t. scheme ++ (codes "://" ++ t)) cut ∙ ap (λ t. scheme ++ t) (sym (append_assoc (codes "://") authority path)) ∙ sym (append_assoc scheme (codes "://" ++ authority) path) in
    known_after web byte_class (scheme ++ (codes "://" ++ authority)) path starts (subst (HasByteClass byte_class) whole h)

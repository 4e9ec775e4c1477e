-- Blocks of bytes, and how they are written with escapes.
use Rattle.std.proofs.Common.{◌≡◌, ◌∙◌, ◌+◌, ◌/◌, ◌%◌, ◌<◌, ◌≤◌, ◌++◌, ◌∷◌, ℕ, true, List, [], length, take, drop, get_or, slice_set, sym, ap, append_assoc, arith}
use Rattle.std.proofs.lemmas.Grind.{take-set_at}
use Rattle.std.proofs.lemmas.List.{append-nil, length-set, nil_from_length, take-append-drop, take_more}
use Rattle.std.proofs.lemmas.Bool.{cond-true}
use Rattle.std.specs.Fmt.{digit_glyph}
use Rattle.percent_encoding.specs.declared.ascii_set.AsciiSet.{AsciiSet}
use Rattle.percent_encoding.specs.AsciiSet.{should_percent_encode}
use Rattle.percent_encoding.specs.Percent.{encode_byte, percent_encode, percent_encode_byte}
use Rattle.percent_encoding.proofs.PercentLemmas.{percent_encode-append, percent_encode-nil}

-- three bytes written at the end of the front of a buffer
pub three_more : (buffer : List ℕ) (at x y z : ℕ) → at + 3 ≤ length buffer → take (at + 3) (slice_set (slice_set (slice_set buffer at x) (at + 1) y) (at + 2) z) ≡ take at buffer ++ x ∷ y ∷ z ∷ []
three_more buffer at x y z fits =
    let one = slice_set buffer at x in
    let two = slice_set one (at + 1) y in
    let first = take-set_at buffer at (at + 1) x (omega arith) (omega arith) in
    let second = take-set_at one (at + 1) (at + 2) y (omega arith) (omega (arith, length-set buffer at x)) in
    let third = take-set_at two (at + 2) (at + 3) z (omega arith) (omega (arith, length-set buffer at x, length-set one (at + 1) y)) in
    third ∙ ap (λ l. l ++ z ∷ []) (second ∙ ap (λ l. l ++ y ∷ []) first) ∙ ap (λ l. l ++ z ∷ []) (append_assoc (take at buffer) (x ∷ []) (y ∷ [])) ∙ append_assoc (take at buffer) (x ∷ y ∷ []) (z ∷ [])

-- a byte that is escaped
pub escape_of : (set : AsciiSet) (b x y : ℕ) → b < 256 → should_percent_encode set b ≡ true → x ≡ digit_glyph true (b / 16) → y ≡ digit_glyph true (b % 16) → 37 ∷ x ∷ y ∷ [] ≡ encode_byte set b
unfolding percent_encode_byte
escape_of set b x y small escaped high low =
    let within : b / 16 % 16 ≡ b / 16 = omega arith in
    ap (λ d. 37 ∷ d ∷ y ∷ []) (high ∙ ap (digit_glyph true) (sym within)) ∙ ap (λ d. 37 ∷ digit_glyph true (b / 16 % 16) ∷ d ∷ []) low ∙ sym (cond-true _ _ _ escaped)

-- the text that is written for one more byte
pub encoded_more : (set : AsciiSet) (bs : List ℕ) (i : ℕ) → i < length bs → percent_encode set (take i bs) ++ encode_byte set (get_or bs i 0) ≡ percent_encode set (take (i + 1) bs)
unfolding percent_encode
encoded_more set bs i within =
    let one : encode_byte set (get_or bs i 0) ≡ percent_encode set (get_or bs i 0 ∷ []) = sym (append-nil (encode_byte set (get_or bs i 0))) in
    ap (λ l. percent_encode set (take i bs) ++ l) one ∙ sym (percent_encode-append set (take i bs) (get_or bs i 0 ∷ [])) ∙ ap (percent_encode set) (sym (take_more bs i 0 within))

-- the text that is written for a block, and for the text after it
pub block_put : (set : AsciiSet) (rest block suffix written chunk : List ℕ) (n : ℕ) → block ≡ take n rest → suffix ≡ drop n rest → written ≡ percent_encode set block → chunk ≡ written → percent_encode set rest ≡ chunk ++ percent_encode set suffix
block_put set rest block suffix written chunk n front back is same =
    ap (percent_encode set) (sym (take-append-drop n rest)) ∙ percent_encode-append set (take n rest) (drop n rest)
    ∙ ap (λ l. percent_encode set l ++ percent_encode set (drop n rest)) (sym front) ∙ ap (λ l. percent_encode set block ++ percent_encode set l) (sym back)
    ∙ ap (λ l. l ++ percent_encode set suffix) (sym (same ∙ is))

-- at the end all is written
pub all_put : (set : AsciiSet) (text rest done : List ℕ) → length rest ≡ 0 → percent_encode set text ≡ done ++ percent_encode set rest → done ≡ percent_encode set text
all_put set text rest done none so_far =
    let left : percent_encode set rest ≡ [] = ap (percent_encode set) (nil_from_length rest none) ∙ percent_encode-nil set in
    sym (so_far ∙ ap (λ l. done ++ l) left ∙ append-nil done)

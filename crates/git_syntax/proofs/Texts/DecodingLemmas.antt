-- Decoding one byte or one block of bytes at a time.
use Rattle.std.proofs.Common.{◌≡◌, ◌∙◌, ◌+◌, ◌-◌, ◌*◌, ◌<◌, ◌≤◌, ◌↔◌, ◌&&◌, ◌∷◌, ◌++◌, ℕ, true, false, List, [], length, take, drop, replicate, get_or, slice_set, IsUtf8, append_assoc, refl, sym, ap, subst, arith, take-append-drop}
use Rattle.std.proofs.lemmas.Bool.{eq-eqb}
use Rattle.std.specs.Char.{digit_value}
use Rattle.std.proofs.lemmas.Grind.{take-set_at}
use Rattle.std.proofs.lemmas.List.{append-nil, drop-drop, drop-replicate, drop-set-lt, length-append, length-take, nil_from_length, take_all, take_rest}
use Rattle.percent_encoding.specs.Percent.{percent_decode}
use Rattle.percent_encoding.proofs.PercentLemmas.{length-percent_decode, percent_decode-nil, percent_decode_not_percent}
use Rattle.simdutf8.proofs.StepsLemmas.{IsUtf8-append_ascii, IsAscii-replicate}
use Rattle.git_syntax.specs.Bytes.{is_hexadecimal, percent_sign}
use Rattle.git_syntax.specs.Internal.Decoding.{PadsBlock}
use Rattle.git_syntax.specs.Escapes.{begins_with_digits}
use Rattle.git_syntax.proofs.Texts.CutLemmas.{tails}
use Rattle.git_syntax.proofs.Texts.EscapeLemmas.{decode_broken, decode_escape}

-- ---- one byte

-- a text that doesn't begin with `%` keeps its first byte
pub other_kept : (text : List ℕ) → ¬ (get_or text 0 0 ≡ percent_sign) → (b : ℕ) (suffix : List ℕ) → text ≡ b ∷ suffix → percent_decode text ≡ b ∷ percent_decode suffix
other_kept text other b suffix e = ap percent_decode e ∙ percent_decode_not_percent b suffix (λ same. other (ap (λ t. get_or t 0 0) e ∙ same))

-- so does one with less than three bytes
short_digits : (bs : List ℕ) → length bs < 2 → begins_with_digits bs ≡ false
short_digits [] short = refl
short_digits (b ∷ []) short = refl
short_digits (b ∷ c ∷ bs) short = absurd (omega (arith, short))

pub short_kept : (text : List ℕ) → length text < 3 → (b : ℕ) (suffix : List ℕ) → text ≡ b ∷ suffix → percent_decode text ≡ b ∷ percent_decode suffix
short_kept text short b suffix e = ap percent_decode e ∙ decode_broken b suffix (short_digits suffix (omega (arith, short, ap length e)))

-- one with no digit after its first byte, or with one
pub kept_before_none : (text : List ℕ) → 3 ≤ length text → is_hexadecimal (get_or text 1 0) ≡ false → (b : ℕ) (suffix : List ℕ) → text ≡ b ∷ suffix → percent_decode text ≡ b ∷ percent_decode suffix
kept_before_none [] long none b suffix e = absurd (omega (arith, long))
kept_before_none (p ∷ []) long none b suffix e = absurd (omega (arith, long))
kept_before_none (p ∷ x ∷ []) long none b suffix e = absurd (omega (arith, long))
kept_before_none (p ∷ x ∷ y ∷ rest) long none b suffix e =
    ap percent_decode e ∙ decode_broken b suffix (ap begins_with_digits (sym (tails e)) ∙ ap (λ d. d && is_hexadecimal y) none)

pub kept_before_one : (text : List ℕ) → 3 ≤ length text → is_hexadecimal (get_or text 1 0) ≡ true → is_hexadecimal (get_or text 2 0) ≡ false → (b : ℕ) (suffix : List ℕ) → text ≡ b ∷ suffix → percent_decode text ≡ b ∷ percent_decode suffix
kept_before_one [] long one none b suffix e = absurd (omega (arith, long))
kept_before_one (p ∷ []) long one none b suffix e = absurd (omega (arith, long))
kept_before_one (p ∷ x ∷ []) long one none b suffix e = absurd (omega (arith, long))
kept_before_one (p ∷ x ∷ y ∷ rest) long one none b suffix e =
    ap percent_decode e ∙ decode_broken b suffix (ap begins_with_digits (sym (tails e)) ∙ ap (λ d. d && is_hexadecimal y) one ∙ none)

-- `%` and two digits decode to their byte
pub escape_decoded : (text : List ℕ) (high low : ℕ) → 3 ≤ length text → get_or text 0 0 ≡ percent_sign → is_hexadecimal (get_or text 1 0) ≡ true → high ≡ digit_value (get_or text 1 0) → is_hexadecimal (get_or text 2 0) ≡ true → low ≡ digit_value (get_or text 2 0)
    → percent_decode text ≡ (high * 16 + low) ∷ percent_decode (take (length text - 3) (drop 3 text))
escape_decoded [] high low long sign one is two same = absurd (omega (arith, long))
escape_decoded (p ∷ []) high low long sign one is two same = absurd (omega (arith, long))
escape_decoded (p ∷ b ∷ []) high low long sign one is two same = absurd (omega (arith, long))
escape_decoded (p ∷ b ∷ c ∷ rest) high low long sign one is two same =
    let value : 16 * digit_value b + digit_value c ≡ high * 16 + low = omega (arith, is, same) in
    decode_escape p b c rest (eq-eqb p percent_sign sign) one two ∙ ap (λ byte. byte ∷ percent_decode rest) value ∙ ap (λ left. (high * 16 + low) ∷ percent_decode left) (sym (take_rest (p ∷ b ∷ c ∷ rest) 3))

-- nothing decodes to nothing
pub nothing_decoded : (text : List ℕ) → text ≡ [] → percent_decode text ≡ []
nothing_decoded text e = ap percent_decode e ∙ percent_decode-nil

-- if nothing is left, all is done
pub all_decoded : (done rest text : List ℕ) → percent_decode text ≡ done ++ percent_decode rest → rest ≡ [] → done ≡ percent_decode text
all_decoded done rest text joined e = sym (joined ∙ ap (λ left. done ++ left) (nothing_decoded rest e) ∙ append-nil done)

-- as much as a window holds
pub all_in_window : (window rest text : List ℕ) (count : ℕ) → percent_decode text ≡ take count window ++ percent_decode rest → rest ≡ [] → count ≤ 4 → take count window ≡ take 4 (percent_decode text)
all_in_window window rest text count joined e small =
    let done = all_decoded (take count window) rest text joined e in
    done ∙ sym (take_all 4 (percent_decode text) (omega (arith, ap length done, length-take count window, small)))

-- ---- blocks of 64 bytes

-- the bytes so far and the rest are UTF-8 if they are with the block
pub with_block : (read rest block suffix : List ℕ) → PadsBlock rest block suffix → IsUtf8 (read ++ percent_decode rest) ↔ IsUtf8 ((read ++ block) ++ percent_decode suffix)
with_block read rest block suffix (zeros, e) =
    let padded = IsUtf8-append_ascii (read ++ percent_decode rest) (replicate zeros 0) (IsAscii-replicate zeros 0 (omega arith)) in
    let same : (read ++ percent_decode rest) ++ replicate zeros 0 ≡ (read ++ block) ++ percent_decode suffix =
    append_assoc read (percent_decode rest) (replicate zeros 0) ∙ ap (λ l. read ++ l) e ∙ sym (append_assoc read block (percent_decode suffix)) in
    (λ u. subst IsUtf8 same (padded.1 u), λ u. padded.0 (subst IsUtf8 (sym same) u))

-- a full block
pub full_block : (text block suffix : List ℕ) (n : ℕ) → length block ≤ n → percent_decode text ≡ take n block ++ percent_decode suffix → PadsBlock text block suffix
full_block text block suffix n within e = (0, append-nil (percent_decode text) ∙ e ∙ ap (λ l. l ++ percent_decode suffix) (take_all n block within))

-- the last block
pub last_block : (text block suffix : List ℕ) (n : ℕ) → suffix ≡ [] → drop n block ≡ replicate (64 - n) 0 → percent_decode text ≡ take n block ++ percent_decode suffix → PadsBlock text block suffix
last_block text block suffix n none zeros e =
    let left : percent_decode suffix ≡ [] = ap percent_decode none ∙ percent_decode-nil in
    let front : percent_decode text ≡ take n block = e ∙ ap (λ l. take n block ++ l) left ∙ append-nil (take n block) in
    (64 - n, ap (λ l. l ++ replicate (64 - n) 0) front ∙ ap (λ l. take n block ++ l) (sym zeros) ∙ take-append-drop n block ∙ sym (ap (λ l. block ++ l) left ∙ append-nil block))

-- the zeros after one byte more
pub zeros_left : (block : List ℕ) (n b : ℕ) → n < 64 → drop n block ≡ replicate (64 - n) 0 → drop (n + 1) (slice_set block n b) ≡ replicate (64 - (n + 1)) 0
zeros_left block n b within zeros =
    let count : 64 - n - 1 ≡ 64 - (n + 1) = omega arith in
    drop-set-lt (n + 1) block n b (omega arith) ∙ ap (λ k. drop k block) (omega arith) ∙ sym (drop-drop 1 n block) ∙ ap (drop 1) zeros ∙ drop-replicate 1 (64 - n) 0 ∙ ap (λ k. replicate k 0) count

-- a byte more of the block
pub byte_more : (text block rest suffix : List ℕ) (n b : ℕ) → n < length block → percent_decode text ≡ take n block ++ percent_decode rest → percent_decode rest ≡ b ∷ percent_decode suffix → percent_decode text ≡ take (n + 1) (slice_set block n b) ++ percent_decode suffix
byte_more text block rest suffix n b within so_far first =
    so_far ∙ ap (λ l. take n block ++ l) first ∙ sym (append_assoc (take n block) (b ∷ []) (percent_decode suffix)) ∙ ap (λ l. l ++ percent_decode suffix) (sym (take-set_at block n (n + 1) b (omega arith) within))

-- a block leaves less of the decoding
pub block_shorter : (text block suffix : List ℕ) (n : ℕ) → 0 < n → n ≤ length block → percent_decode text ≡ take n block ++ percent_decode suffix → length (percent_decode suffix) < length (percent_decode text)
block_shorter text block suffix n some within e = omega (arith, ap length e, length-append (take n block) (percent_decode suffix), length-take n block)

-- the end of a text leaves nothing of it
pub end_shorter : (text suffix : List ℕ) → suffix ≡ [] → 0 < length text → length (percent_decode suffix) < length (percent_decode text)
end_shorter text suffix none some = omega (arith, ap length (ap percent_decode none ∙ percent_decode-nil), (length-percent_decode text).1)

-- all that was read
pub all_read : (read rest : List ℕ) → length rest ≡ 0 → read ≡ read ++ percent_decode rest
all_read read rest none = sym (ap (λ l. read ++ l) (ap percent_decode (nil_from_length rest none) ∙ percent_decode-nil) ∙ append-nil read)

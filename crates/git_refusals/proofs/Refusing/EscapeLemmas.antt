-- The index at which the decoding of a text stops being UTF-8, and the number of bytes of the text that spell
-- it.
use Rattle.std.proofs.Common.{◌≡◌, ◌∙◌, ◌+◌, ◌-◌, ◌<◌, ◌≤◌, ℕ, zero, suc, true, false, List, [], ◌∷◌, ◌++◌, Option, Some, None, length, take, drop, refl, sym, ap, subst, ⊎_elim, arith, append_assoc, append-nil, length-take, length-drop, drop-drop, take_all, take-append-drop, take-add, true≢false, IsUtf8, encode_utf8, encode_utf8_all}
use Rattle.std.specs.Option.{is_some}
use Rattle.std.specs.Str.Lossy.{utf8_valid_len, utf8_invalid_len}
use Rattle.std.proofs.lemmas.Bool.{and_parts, cases_lt}
use Rattle.std.proofs.lemmas.Bool.Decides.{nat_tests}
use Rattle.std.proofs.lemmas.List.{drop-append-le, take-take, take_at}
use Rattle.std.proofs.lemmas.Str.{IsUtf8-append, IsUtf8-encode, utf8_valid_len-IsValidUpTo}
use lib.Utf8.{scalars}
use Rattle.percent_encoding.specs.Percent.{percent_decode}
use Rattle.percent_encoding.proofs.PercentLemmas.{percent_decode-nil}
use Rattle.bstr.specs.Utf8.{Decoded, decoded}
use Rattle.bstr.proofs.lemmas.EncodeLemmas.{decoded-encode}
use Rattle.bstr.proofs.lemmas.LossyLemmas.{utf8_invalid_len-decoded, utf8_valid_len-cases}
use Rattle.bstr.proofs.lemmas.PieceLemmas.{piece-bounds}
use Rattle.bstr.proofs.lemmas.SoundLemmas.{SpellsChar-decoded}
use Rattle.bstr.proofs.lemmas.UnicodeLemmas.{none_after_valid}
use Rattle.git_syntax.proofs.Texts.EscapeLemmas.{decode_broken, decode_byte, decode_escape, decoded_window, utf8_after, utf8_byte}
use Rattle.git_refusals.specs.Characters.{unit_len, spelled_len, undecodable_at, undecodable_len}

-- ---- a text that spells the bytes of a decoding

-- the first byte of a decoding is spelled by bytes of the text
pub unit_within : (text : List ℕ) → unit_len text ≤ length text
unit_within text = grind (arith, nat_tests)

-- by one at least
pub unit_some : (text : List ℕ) → 0 < length text → 0 < unit_len text
unit_some text some = grind (arith, nat_tests)

-- the text after them spells the rest of the decoding
pub unit_decodes : (text : List ℕ) → percent_decode (drop (unit_len text) text) ≡ drop 1 (percent_decode text)
unit_decodes text = grind (arith, nat_tests, percent_decode-nil, decode_broken, decode_byte, decode_escape)

-- bytes that spell the first n bytes of a decoding, and those that spell the m after them
pub spelled_more : (n m : ℕ) (text : List ℕ) → spelled_len (n + m) text ≡ spelled_len n text + spelled_len m (drop (spelled_len n text) text)
spelled_more zero m text =
    let same : 0 + m ≡ m = omega arith in
    omega (arith, ap (λ k. spelled_len k text) same)
spelled_more (suc n) m text =
    let whole : suc n + m ≡ suc (n + m) = omega arith in
    let suffix = drop (unit_len text) text in
    let rest = spelled_more n m suffix in
    let same = ap (spelled_len m) (drop-drop (spelled_len n suffix) (unit_len text) text) in
    omega (arith, ap (λ k. spelled_len k text) whole, rest, same)

-- they are bytes of the text
pub spelled_within : (n : ℕ) (text : List ℕ) → spelled_len n text ≤ length text
spelled_within zero text = omega arith
spelled_within (suc n) text =
    omega (arith, spelled_within n (drop (unit_len text) text), length-drop (unit_len text) text, unit_within text)

-- of which there is one if there is one to be spelled
pub spelled_some : (n : ℕ) (text : List ℕ) → 0 < n → 0 < length text → 0 < spelled_len n text
spelled_some zero text some full = omega (arith, some)
spelled_some (suc n) text some full = omega (arith, unit_some text full)

-- the text after them spells the rest of the decoding
pub spelled_decodes : (n : ℕ) (text : List ℕ) → percent_decode (drop (spelled_len n text) text) ≡ drop n (percent_decode text)
spelled_decodes zero text = refl
spelled_decodes (suc n) text =
    let suffix = drop (unit_len text) text in
    let next : 1 + n ≡ suc n = omega arith in
    ap percent_decode (sym (drop-drop (spelled_len n suffix) (unit_len text) text)) ∙ spelled_decodes n suffix ∙ ap (drop n) (unit_decodes text) ∙ drop-drop n 1 (percent_decode text) ∙ ap (λ k. drop k (percent_decode text)) next

-- one more byte is left
pub unit_more : (text rest left : List ℕ) (n : ℕ) → rest ≡ drop (spelled_len n text) text → left ≡ drop (unit_len rest) rest → left ≡ drop (spelled_len (n + 1) text) text
unit_more text rest left n so_far step =
    let at = drop (spelled_len n text) text in
    let more : spelled_len n text + unit_len at ≡ spelled_len (n + 1) text = omega (arith, spelled_more n 1 text) in
    step ∙ ap (λ t. drop (unit_len t) t) so_far ∙ drop-drop (unit_len at) (spelled_len n text) text ∙ ap (λ k. drop k text) more

-- ---- the index at which a text stops being UTF-8

-- bytes that begin with a character decode to one
begins_character : (cs rest bs : List ℕ) → scalars cs ≡ true → bs ≡ encode_utf8_all cs ++ rest → 0 < length (encode_utf8_all cs) → is_some (decoded bs).char ≡ true
begins_character [] rest bs scalar e some = absurd (omega (arith, some))
begins_character (c ∷ cs) rest bs scalar e some =
    let first = decoded-encode c (encode_utf8_all cs ++ rest) (and_parts _ _ scalar).0 in
    let same = ap decoded (e ∙ append_assoc (encode_utf8 c) (encode_utf8_all cs) rest) ∙ first in
    ap (λ (d : Decoded). is_some d.char) same

-- bytes that aren't UTF-8 stop being it after UTF-8 that no character follows
pub valid_at : (bs : List ℕ) (n : ℕ) → ¬ IsUtf8 bs → IsUtf8 (take n bs) → (decoded (drop n bs)).char ≡ None → utf8_valid_len bs ≡ n
valid_at bs n not front none =
    ⊎_elim
    (λ (short : n < length bs). utf8_valid_len-IsValidUpTo bs n (record { short = short; front = front; longest = λ m above utf8. longest m above short utf8 }))
    (λ (long : length bs ≤ n). absurd (not (subst IsUtf8 (take_all n bs long) front)))
    (cases_lt n (length bs))
  where
    longest : (m : ℕ) → n < m → n < length bs → ¬ IsUtf8 (take m bs)
    longest m above short utf8 =
        let rest = drop n (take m bs) in
        let size : n < length (take m bs) = omega (arith, length-take m bs) in
        let cut : take m bs ≡ take n bs ++ rest = sym (take-append-drop n (take m bs)) ∙ ap (λ t. t ++ rest) (take-take n m bs (omega (arith, above))) in
        let later = utf8_after (take n bs) rest (subst IsUtf8 cut utf8) front in
        let whole : drop n bs ≡ encode_utf8_all later.0 ++ drop m bs = ap (drop n) (sym (take-append-drop m bs)) ∙ drop-append-le n (take m bs) (drop m bs) (omega (arith, size)) ∙ ap (λ t. t ++ drop m bs) (sym later.1.1) in
        let some = begins_character later.0 (drop m bs) (drop n bs) later.1.0 whole (omega (arith, ap length later.1.1, length-drop n (take m bs), size)) in
        true≢false (sym some ∙ ap is_some none)

-- bytes that aren't UTF-8 begin with no character if they stop being it
pub none_at_valid : (bs : List ℕ) → ¬ IsUtf8 bs → (decoded (drop (utf8_valid_len bs) bs)).char ≡ None
none_at_valid bs not = ⊎_elim (λ utf8. absurd (not utf8)) (λ valid. none_after_valid bs (utf8_valid_len bs) valid) (utf8_valid_len-cases bs)

-- ---- along a text

-- the rest of a text after bytes that spell UTF-8
pub record IsLeft (text rest : List ℕ) : Type 0 where
  pub count : ℕ
  pub front : IsUtf8 (take count (percent_decode text))
  pub left : rest ≡ drop (spelled_len count text) text

-- less is left after bytes that spell more UTF-8
pub left_more : (text rest left : List ℕ) (size : ℕ) → IsLeft text rest → IsUtf8 (take size (percent_decode rest)) → left ≡ drop (spelled_len size rest) rest → IsLeft text left
left_more text rest left size h front step =
    let all = percent_decode text in
    let decodes : percent_decode rest ≡ drop h.count all = ap percent_decode h.left ∙ spelled_decodes h.count text in
    let more = subst (λ t. IsUtf8 (take size t)) decodes front in
    record {
      count = h.count + size;
      front = subst IsUtf8 (sym (take-add h.count size all)) (IsUtf8-append (take h.count all) (take size (drop h.count all)) h.front more);
      left = step ∙ ap (λ t. drop (spelled_len size t) t) h.left ∙ drop-drop (spelled_len size (drop (spelled_len h.count text) text)) (spelled_len h.count text) text ∙ ap (λ k. drop k text) (sym (spelled_more h.count size text));
    }

-- a byte of ASCII is UTF-8
pub ascii_front : (text left : List ℕ) (b : ℕ) → b < 128 → percent_decode text ≡ b ∷ percent_decode left → IsUtf8 (take 1 (percent_decode text))
ascii_front text left b low e = subst IsUtf8 (sym (ap (take 1) e)) (utf8_byte b low)

-- so is a text that decodes to a character
pub character_front : (bs : List ℕ) (c : ℕ) → (decoded bs).char ≡ Some c → IsUtf8 (take (decoded bs).size bs)
character_front bs c found =
    let first = SpellsChar-decoded bs c found in
    let size = (decoded bs).size in
    let same : take size bs ≡ encode_utf8 c = ap (take size) first.bytes ∙ take_at (encode_utf8 c) (drop size bs) size first.width in
    subst IsUtf8 (sym same) (IsUtf8-encode c first.scalar)

-- the same read in a window of four bytes
pub window_front : (bs window : List ℕ) (found : Option ℕ) (size : ℕ) → window ≡ take 4 bs → found ≡ (decoded window).char → size ≡ (decoded window).size → is_some found ≡ true → IsUtf8 (take size bs)
window_front bs window None size whole char width some = absurd (true≢false (sym some))
window_front bs window (Some c) size whole char width some =
    let same = ap decoded whole ∙ decoded_window bs in
    let read = character_front bs c (sym (char ∙ ap (λ (d : Decoded). d.char) same)) in
    subst (λ n. IsUtf8 (take n bs)) (sym (width ∙ ap (λ (d : Decoded). d.size) same)) read

-- a text that decodes to a byte isn't empty
pub decoded_some : (text bs : List ℕ) (b : ℕ) → percent_decode text ≡ b ∷ bs → 0 < length text
decoded_some [] bs b e = absurd (omega (arith, ap length (sym percent_decode-nil ∙ e)))
decoded_some (c ∷ text) bs b e = omega arith

-- a window on its decoding isn't empty
pub window_full : (text window bs : List ℕ) (b : ℕ) → percent_decode text ≡ b ∷ bs → window ≡ take 4 (percent_decode text) → 0 < length window
window_full text window bs b e whole = omega (arith, ap length (whole ∙ ap (take 4) e))

-- the rest shrinks by bytes that spell some
pub left_shorter : (rest left bs : List ℕ) (b size : ℕ) → percent_decode rest ≡ b ∷ bs → 0 < size → left ≡ drop (spelled_len size rest) rest → length left < length rest
left_shorter rest left bs b size e some step =
    let taken = spelled_some size rest some (decoded_some rest bs b e) in
    omega (arith, ap length step, length-drop (spelled_len size rest) rest, taken, spelled_within size rest)

-- the front of a text that decodes isn't empty
pub size_some : (window : List ℕ) (size : ℕ) → 0 < length window → size ≡ (decoded window).size → 0 < size
size_some window size full width = omega (arith, width, (piece-bounds window full).0)

-- if nothing is left all is UTF-8
pub nothing_left : (text rest : List ℕ) → IsLeft text rest → rest ≡ [] → IsUtf8 (percent_decode text)
nothing_left text rest h none =
    let all = percent_decode text in
    let decodes : drop h.count all ≡ [] = sym (ap percent_decode h.left ∙ spelled_decodes h.count text) ∙ ap percent_decode none ∙ percent_decode-nil in
    let whole = sym (take-append-drop h.count all) ∙ ap (λ t. take h.count all ++ t) decodes ∙ append-nil (take h.count all) in
    subst IsUtf8 (sym whole) h.front

-- the rest begins with no character if the text stops decoding to UTF-8
pub left_at_fault : (text rest window : List ℕ) (found : Option ℕ) → ¬ IsUtf8 (percent_decode text) → IsLeft text rest → window ≡ take 4 (percent_decode rest) → found ≡ (decoded window).char → is_some found ≡ false → rest ≡ drop (undecodable_at text) text
left_at_fault text rest window (Some c) not h whole char none = absurd (true≢false none)
left_at_fault text rest window None not h whole char none =
    let all = percent_decode text in
    let decodes : percent_decode rest ≡ drop h.count all = ap percent_decode h.left ∙ spelled_decodes h.count text in
    let read : (decoded (drop h.count all)).char ≡ None = sym (char ∙ ap (λ t. (decoded t).char) whole ∙ ap (λ (d : Decoded). d.char) (decoded_window (percent_decode rest)) ∙ ap (λ t. (decoded t).char) decodes) in
    h.left ∙ ap (λ n. drop (spelled_len n text) text) (sym (valid_at all h.count not h.front read))

-- ---- the place

-- the index at which a text stops decoding to UTF-8 is within it
pub at_is : (text left : List ℕ) → left ≡ drop (undecodable_at text) text → length text - length left ≡ undecodable_at text
at_is text left e =
    let within = spelled_within (utf8_valid_len (percent_decode text)) text in
    omega (arith, ap length e, length-drop (undecodable_at text) text, within)

-- the decoding of the window determines how many bytes are not UTF-8
pub len_is : (text left window suffix : List ℕ) (size : ℕ) → ¬ IsUtf8 (percent_decode text) → left ≡ drop (undecodable_at text) text → window ≡ take 4 (percent_decode left) → size ≡ (decoded window).size → suffix ≡ drop (spelled_len size left) left
    → length left - length suffix ≡ undecodable_len (drop (undecodable_at text) text)
len_is text left window suffix size not e whole width step =
    let all = percent_decode text in
    let bs = percent_decode left in
    let decodes : bs ≡ drop (utf8_valid_len all) all = ap percent_decode e ∙ spelled_decodes (utf8_valid_len all) text in
    let none : (decoded bs).char ≡ None = ap (λ t. (decoded t).char) decodes ∙ none_at_valid all not in
    let read : size ≡ utf8_invalid_len bs = width ∙ ap (λ (d : Decoded). d.size) (ap decoded whole ∙ decoded_window bs) ∙ sym (utf8_invalid_len-decoded bs none) in
    let gone : length left - length suffix ≡ spelled_len size left = omega (arith, ap length step, length-drop (spelled_len size left) left, spelled_within size left) in
    gone ∙ ap (λ n. spelled_len n left) read ∙ ap undecodable_len e

-- the place is within the text
pub place_within : (text left suffix : List ℕ) (at : ℕ) → left ≡ drop at text → (length text - length left) + (length left - length suffix) ≤ length text
place_within text left suffix at e = omega (arith, ap length e, length-drop at text)

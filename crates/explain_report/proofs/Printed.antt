-- Texts without control characters, written one after the other.
use Rattle.std.proofs.Common.{◌≡◌, ◌∙◌, ◌&&◌, ◌<◌, ◌/◌, ◌%◌, ℕ, Bool, true, false, List, [], ◌∷◌, ◌++◌, refl, sym, ap, subst, append-nil, encode_utf8, encode_utf8_all, nat_lt, arith, mod-lt, Result, Ok, Err, OnOk, IsOk}
use Rattle.std.proofs.lemmas.Bool.{and_from, and_parts, cond_both, ltb-true}
use Rattle.std.proofs.lemmas.Bool.Decides.{nat_tests}
use Rattle.std.proofs.lemmas.List.Folds.{list_all-append}
use Rattle.std.proofs.lemmas.Str.{encode_ascii, encodes-append}
use Rattle.std.proofs.Output.{contents_after_writes, has_written_append, writes_in_calls_nil, writes_in_calls_append, writes_in_calls_single}
use Rattle.std.specs.List.{FoldsTo, concat, list_all}
use Rattle.std.specs.Char.{digit_char}
use Rattle.std.specs.Char.Escape.{escape_unicode, hex_digit_at}
use Rattle.std.specs.Fmt.{HasWritten, IsPlainFormatter, WritesInCalls}
use Rattle.std.specs.declared.fmt.Formatter.{Formatter}
use Rattle.explain_report.specs.Printed.{AddsPrinted, IsPrinted, WritesPrinted, is_printed}

-- nothing has no control character
pub printed_nil : IsPrinted []
printed_nil = record { characters = []; printed = refl; spelled = refl }

-- a text after another
pub printed_append : (a b : List ℕ) → IsPrinted a → IsPrinted b → IsPrinted (a ++ b)
printed_append a b p q = record {
  characters = p.characters ++ q.characters;
  printed = list_all-append is_printed p.characters q.characters ∙ ap (λ t. t && list_all is_printed q.characters) p.printed ∙ q.printed;
  spelled = ap (λ t. t ++ b) p.spelled ∙ ap (λ t. encode_utf8_all p.characters ++ t) q.spelled ∙ sym (encodes-append p.characters q.characters);
}

-- one character
pub printed_one : (c : ℕ) → is_printed c ≡ true → IsPrinted (encode_utf8 c)
printed_one c is = record { characters = c ∷ []; printed = ap (λ t. t && true) is; spelled = sym (append-nil (encode_utf8 c)) }

-- a text of ASCII
pub printed_ascii : (text : List ℕ) → list_all (λ b. nat_lt b 128 && is_printed b) text ≡ true → IsPrinted text
printed_ascii [] all = printed_nil
printed_ascii (b ∷ bs) all =
    let parts = and_parts (nat_lt b 128 && is_printed b) (list_all (λ c. nat_lt c 128 && is_printed c) bs) all in
    let own = and_parts (nat_lt b 128) (is_printed b) parts.0 in
    subst IsPrinted (ap (λ t. t ++ bs) (encode_ascii b (ltb-true b 128 own.0))) (printed_append (encode_utf8 b) bs (printed_one b own.1) (printed_ascii bs parts.1))

-- ---- the number of a character

-- a hexadecimal digit
hex_printed : (d : ℕ) → d < 16 → is_printed (digit_char d) ≡ true
hex_printed d low = grind (arith, nat_tests)

-- one of a number
at_printed : (p c : ℕ) → is_printed (hex_digit_at p c) ≡ true
at_printed p c =
    let some : 0 < 16 = omega arith in
    hex_printed (c / p % 16) (mod-lt (c / p) some)

-- a number in braces
pub number_printed : (c : ℕ) → list_all is_printed (escape_unicode c) ≡ true
number_printed c =
    let all : List ℕ → Type 0 = λ text. list_all is_printed text ≡ true in
    let one = and_from _ _ (at_printed 1 c) refl in
    let two = and_from _ _ (at_printed 0x10 c) one in
    let three = and_from _ _ (at_printed 0x100 c) two in
    let four = and_from _ _ (at_printed 0x1000 c) three in
    let five = and_from _ _ (at_printed 0x1_0000 c) four in
    let six = and_from _ _ (at_printed 0x10_0000 c) five in
    cond_both (nat_lt c 0x10) _ _ all (λ _. one)
    (λ _. cond_both (nat_lt c 0x100) _ _ all (λ _. two)
    (λ _. cond_both (nat_lt c 0x1000) _ _ all (λ _. three)
    (λ _. cond_both (nat_lt c 0x1_0000) _ _ all (λ _. four)
    (λ _. cond_both (nat_lt c 0x10_0000) _ _ all (λ _. five) (λ _. six)))))

-- ---- calls of a writer

module _ {W : Type 0} (took : W → List ℕ → W → Type 0) where
  -- nothing was written
  pub adds_nil : (w : W) → AddsPrinted took w w
  adds_nil w = record { text = []; wrote = writes_in_calls_nil took w; printed = printed_nil }

  -- a text was written by one call
  pub adds_one : (w v : W) (text : List ℕ) → took w text v → IsPrinted text → AddsPrinted took w v
  adds_one w v text gave is = record { text = text; wrote = writes_in_calls_single took w text v gave; printed = is }

  -- one after the other
  pub adds_then : (w v u : W) → AddsPrinted took w v → AddsPrinted took v u → AddsPrinted took w u
  adds_then w v u p q = record {
    text = p.text ++ q.text;
    wrote = writes_in_calls_append took w p.text v q.text u p.wrote q.wrote;
    printed = printed_append p.text q.text p.printed q.printed;
  }

  -- a last call that may fail
  pub adds_last : {T E : Type 0} (w v u : W) (text : List ℕ) (r : Result T E) → AddsPrinted took w v → IsPrinted text → OnOk r (took v text u) → OnOk r (AddsPrinted took w u)
  adds_last w v u text (Ok x) so_far is gave = adds_then w v u so_far (adds_one v u text gave is)
  adds_last w v u text (Err e) so_far is gave = gave

  -- a last call, of `write_str`, that may fail
  pub adds_end : {T E : Type 0} (w v u : W) (text : List ℕ) (r : Result T E) → AddsPrinted took w v → IsPrinted text → (IsOk r → took v text u) → OnOk r (AddsPrinted took w u)
  adds_end w v u text (Ok x) so_far is gave = adds_then w v u so_far (adds_one v u text (gave refl) is)
  adds_end w v u text (Err e) so_far is gave = tt

  -- a first call that may fail
  pub adds_call : {T E : Type 0} (w u : W) (text : List ℕ) (r : Result T E) → IsPrinted text → (IsOk r → took w text u) → OnOk r (AddsPrinted took w u)
  adds_call w u text (Ok x) is gave = adds_one w u text (gave refl) is
  adds_call w u text (Err e) is gave = tt

  -- ---- calls of a formatter

  -- a call of a formatter is one of its writer
  abbrev Formats : Formatter W → List ℕ → Formatter W → Type 0
  Formats s bs t = IsPlainFormatter s → HasWritten took s bs t

  -- so are several
  formats : (f : Formatter W) (parts : List (List ℕ)) (g : Formatter W) → FoldsTo Formats f parts g → IsPlainFormatter f → HasWritten took f (concat parts) g
  formats f [] g p plain = record { wrote = subst (λ h. WritesInCalls took f.writer [] h.writer) p (writes_in_calls_nil took f.writer); plain = subst IsPlainFormatter p plain }
  formats f (x ∷ xs) g p plain =
      let first = p.1 plain in
      has_written_append took f x p.0 (concat xs) g first (formats p.0 xs g p.2 first.plain)

  -- a text that was written by a formatter
  pub formatted : {T E : Type 0} (f g : Formatter W) (r : Result T E) → OnOk r (AddsPrinted Formats f g) → OnOk r (WritesPrinted took f g)
  formatted f g (Ok x) p = λ plain. (p.text, subst (λ t. HasWritten took f t g) p.wrote.whole (formats f p.wrote.parts g p.wrote.calls plain), p.printed)
  formatted f g (Err e) p = p

-- Runs of escapes: the rest after them is as sound as the whole, and has high escapes if the whole has.
use Rattle.std.proofs.Common.{◌≡◌, ◌∙◌, ◌+◌, ◌&&◌, ◌||◌, ◌++◌, ◌∷◌, ℕ, Bool, true, false, not, nat_le, List, length, get_or, sym, ap, arith}
use Rattle.std.proofs.lemmas.Bool.{and_from, and_parts, not-true}
use Rattle.git_syntax.specs.Bytes.{FreeOf, is_hexadecimal, percent_sign}
use Rattle.git_syntax.specs.Escapes.{begins_with_digits, is_sound}
use Rattle.git_syntax.specs.Internal.ByteClasses.{begins_high, has_high_escape}
use Rattle.git_syntax.specs.Internal.Runs.{BeginsDigits, PassesRun}
use Rattle.git_syntax.proofs.Texts.AsciiLemmas.{sound_at_cut}
use Rattle.git_syntax.proofs.Texts.EscapeLemmas.{digit_not_percent, sound_kept, sound_step}
use Rattle.git_syntax.proofs.Texts.LookLemmas.{high_at_cut, high_kept}

-- two digits begin no escape
pub digits_sound : (text suffix : List ℕ) (high : ℕ) → BeginsDigits text high suffix → is_sound suffix ≡ is_sound text
digits_sound text suffix high d =
    let low = get_or text 1 0 in
    sym (ap is_sound d.spelled ∙ sound_kept high (low ∷ suffix) (digit_not_percent high d.first) ∙ sound_kept low suffix (digit_not_percent low d.second))

pub digits_high : (text suffix : List ℕ) (high : ℕ) → BeginsDigits text high suffix → has_high_escape suffix ≡ has_high_escape text
digits_high text suffix high d =
    let low = get_or text 1 0 in
    sym (ap has_high_escape d.spelled ∙ high_kept high (low ∷ suffix) (digit_not_percent high d.first) ∙ high_kept low suffix (digit_not_percent low d.second))

pub digits_begin : (text suffix : List ℕ) (high : ℕ) → BeginsDigits text high suffix → begins_with_digits text ≡ true
digits_begin text suffix high d = ap begins_with_digits d.spelled ∙ and_from (is_hexadecimal high) (is_hexadecimal (get_or text 1 0)) d.first d.second

pub digits_first : (text suffix : List ℕ) (high : ℕ) → BeginsDigits text high suffix → begins_high text ≡ nat_le 56 high
digits_first text suffix high d = ap begins_high d.spelled

pub digits_shorter : (text suffix : List ℕ) (high : ℕ) → BeginsDigits text high suffix → length suffix + 2 ≡ length text
digits_shorter text suffix high d = omega (arith, ap length d.spelled)

-- an escape is sound
pub escape_sound : (rest digits suffix : List ℕ) (high : ℕ) → rest ≡ percent_sign ∷ digits → BeginsDigits digits high suffix → is_sound suffix ≡ is_sound rest
escape_sound rest digits suffix high e d =
    digits_sound digits suffix high d ∙ sym (ap is_sound e ∙ sound_step percent_sign digits ∙ ap (λ b. b && is_sound digits) (digits_begin digits suffix high d))

-- and high if its first digit is
pub escape_high : (rest digits suffix : List ℕ) (high : ℕ) → rest ≡ percent_sign ∷ digits → BeginsDigits digits high suffix → nat_le 56 high ≡ false → has_high_escape suffix ≡ has_high_escape rest
escape_high rest digits suffix high e d low =
    digits_high digits suffix high d ∙ sym (ap has_high_escape e ∙ ap (λ b. b || has_high_escape digits) (digits_first digits suffix high d ∙ low))

-- an escape more
pub run_more : (text rest digits suffix : List ℕ) (low high_digit : Bool) (high : ℕ) → PassesRun text low rest → rest ≡ percent_sign ∷ digits → BeginsDigits digits high suffix → high_digit ≡ nat_le 56 high → PassesRun text (low && not high_digit) suffix
run_more text rest digits suffix low high_digit high run e d is = record {
  digits = run.digits;
  sound = escape_sound rest digits suffix high e d ∙ run.sound;
  front = λ both. run.front (and_parts low (not high_digit) both).0;
  others = λ both.
      let (first, other) = and_parts low (not high_digit) both in
      escape_high rest digits suffix high e d (sym is ∙ not-true high_digit other) ∙ run.others first;
  shorter = omega (arith, run.shorter, ap length e, digits_shorter digits suffix high d);
}

-- ---- the first `%` and the run after it

-- a text is as sound as the rest after the first run
pub sound_past_run : (low : Bool) (rest front suffix left : List ℕ) → rest ≡ front ++ percent_sign ∷ suffix → FreeOf percent_sign front → PassesRun suffix low left → is_sound left ≡ is_sound rest
sound_past_run low rest front suffix left e free run = run.sound ∙ sym (ap is_sound e ∙ sound_at_cut front suffix free ∙ ap (λ b. b && is_sound suffix) run.digits)

-- without two digits it isn't sound
pub broken_at_cut : (rest front suffix : List ℕ) → rest ≡ front ++ percent_sign ∷ suffix → FreeOf percent_sign front → begins_with_digits suffix ≡ false → is_sound rest ≡ false
broken_at_cut rest front suffix e free none = ap is_sound e ∙ sound_at_cut front suffix free ∙ ap (λ b. b && is_sound suffix) none

-- if the run is low, the rest after it decides whether all escapes are
pub low_past_run : (ascii low : Bool) (text rest front suffix left : List ℕ) → rest ≡ front ++ percent_sign ∷ suffix → FreeOf percent_sign front → PassesRun suffix low left
    → (ascii ≡ true → has_high_escape rest ≡ has_high_escape text) → (ascii && low) ≡ true → has_high_escape left ≡ has_high_escape text
low_past_run ascii low text rest front suffix left e free run same both =
    let (first, second) = and_parts ascii low both in
    run.others second ∙ sym (ap has_high_escape e ∙ high_at_cut front suffix free ∙ ap (λ b. b || has_high_escape suffix) (run.front second)) ∙ same first

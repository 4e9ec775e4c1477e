-- The table of hexadecimal digits.
use Rattle.std.proofs.Common.{◌≡◌, ◌∙◌, ◌<◌, ◌≤◌, ◌==◌, ℕ, true, false, if◌then◌else◌, get_or, inl, inr, refl, arith}
use Rattle.std.specs.Char.{digit_value, is_digit}
use Rattle.std.proofs.lemmas.Bool.{agree_below_at, cases_Bool, cond-true, cond-false, eqb-true, ltb-true}
use Rattle.git_syntax.specs.declared.digits.TheConstants.{VALUES}

-- the value of the byte as a digit, or 16
abbrev value_of : ℕ → ℕ
value_of b = if is_digit b 16 then digit_value b else 16

-- the table has it
value_at : (b : ℕ) → b < 256 → get_or VALUES b 0 ≡ value_of b
value_at b small = eqb-true (get_or VALUES b 0) (value_of b) (agree_below_at (λ d. get_or VALUES d 0 == value_of d) (λ d. true) 256 b refl small)

-- a value below 16 is that of a digit
pub digit_found : (b : ℕ) → b < 256 → get_or VALUES b 0 < 16 → (is_digit b 16 ≡ true) × (get_or VALUES b 0 ≡ digit_value b)
digit_found b small low =
    elim (cases_Bool (is_digit b 16)) [
      | inl is ↦ (is, value_at b small ∙ cond-true (is_digit b 16) (digit_value b) 16 is)
      | inr none ↦ absurd (omega (arith, low, value_at b small ∙ cond-false (is_digit b 16) (digit_value b) 16 none))
    ]

below : (b : ℕ) → is_digit b 16 ≡ true → digit_value b < 16
below b is = ltb-true (digit_value b) 16 is

-- any other is that of no digit
pub no_digit : (b : ℕ) → b < 256 → 16 ≤ get_or VALUES b 0 → is_digit b 16 ≡ false
no_digit b small high =
    elim (cases_Bool (is_digit b 16)) [
      | inl is ↦ absurd (omega (arith, high, below b is, value_at b small ∙ cond-true (is_digit b 16) (digit_value b) 16 is))
      | inr none ↦ none
    ]

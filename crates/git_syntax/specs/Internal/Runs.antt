-- Runs of consecutive escapes.
use Rattle.std.specs.Prelude.{◌≡◌, ◌≤◌, ℕ, Bool, true, false, List, ◌∷◌, length, get_or, Option, MatchOption, IfSome}
use Rattle.std.specs.Borrow.{Bor}
use Rattle.git_syntax.specs.Bytes.{is_hexadecimal, percent_sign}
use Rattle.git_syntax.specs.Escapes.{begins_with_digits, is_sound}
use Rattle.git_syntax.specs.Internal.ByteClasses.{begins_high, has_high_escape}

-- the text begins with two hexadecimal digits, of which this is the first, and goes on with the rest
pub record BeginsDigits (text : List ℕ) (high : ℕ) (suffix : List ℕ) : Type 0 where
  pub spelled : text ≡ high ∷ get_or text 1 0 ∷ suffix
  pub first : is_hexadecimal high ≡ true
  pub second : is_hexadecimal (get_or text 1 0) ≡ true

-- the first of the two hexadecimal digits that the text begins with, and the text after them; `None` if it doesn't
abbrev pub StripsDigits : List ℕ → Option (ℕ × Bor (List ℕ)) → Type 0
StripsDigits text result = MatchOption result (begins_with_digits text ≡ false) (λ parts. BeginsDigits text parts.0 parts.1.now)

-- the first digit of the escape that the text begins with, and the text after it
abbrev pub StripsEscape : List ℕ → Option (ℕ × Bor (List ℕ)) → Type 0
StripsEscape text result = IfSome result (λ parts. (digits : List ℕ) × (text ≡ percent_sign ∷ digits) × BeginsDigits digits parts.0 parts.1.now)

-- the rest of the text after two digits and the escapes that follow them. If `low` is true, all of them
-- decode to ASCII
pub record PassesRun (text : List ℕ) (low : Bool) (left : List ℕ) : Type 0 where
  pub digits : begins_with_digits text ≡ true
  pub sound : is_sound left ≡ is_sound text
  pub front : low ≡ true → begins_high text ≡ false
  pub others : low ≡ true → has_high_escape left ≡ has_high_escape text
  pub shorter : length left ≤ length text

-- that rest and `low` as a result; `None` if the text doesn't begin with two digits
abbrev pub PassesDigits : List ℕ → Option (Bool × Bor (List ℕ)) → Type 0
PassesDigits text result = MatchOption result (begins_with_digits text ≡ false) (λ run. PassesRun text run.0 run.1.now)

-- Texts that Git reads as numbers.
use Rattle.std.specs.Prelude.{ℕ, ◌*◌, Bool, false, ◌&&◌, ◌||◌, ◌==◌, nat_le, List, [], ◌∷◌, drop, Option, Some, None, option_and_then, if◌then◌else◌}
use Rattle.std.specs.List.{prefix_len, take_while}
use Rattle.std.specs.Char.{is_digit, to_ascii_lowercase}
use Rattle.std.specs.Str.Parse.{digits_value}
use Rattle.git_syntax.specs.Bytes.{begins_with, digit_zero, hyphen, plus_sign, is_c_space}

-- `k`, `m`, `g` and `x`
abbrev pub letter_k : ℕ
letter_k = 107

abbrev pub letter_m : ℕ
letter_m = 109

abbrev pub letter_g : ℕ
letter_g = 103

abbrev pub letter_x : ℕ
letter_x = 120

-- the maximum of C's `int`: 2^31 - 1
abbrev pub greatest_int : ℕ
greatest_int = 2147483647

-- the maximum of C's 64-bit `ssize_t`: 2^63 - 1
abbrev pub greatest_size : ℕ
greatest_size = 9223372036854775807

-- the number, if it is at most `greatest`
abbrev pub fitting : ℕ → ℕ → Option ℕ
fitting greatest n = if nat_le n greatest then Some n else None

-- the factor of a unit, named by a lower-case letter
abbrev pub unit_named : ℕ → Option ℕ
unit_named b = if b == letter_k then Some 1024
    else (if b == letter_m then Some 1048576
    else (if b == letter_g then Some 1073741824 else None))

-- the factor of the text after a number: no text, or one letter in either case
abbrev pub unit_of : List ℕ → Option ℕ
unit_of [] = Some 1
unit_of (b ∷ []) = unit_named (to_ascii_lowercase b)
unit_of (b ∷ c ∷ rest) = None

-- the value of these digits, at least one, multiplied by the unit after them
abbrev pub counted : ℕ → ℕ → List ℕ → List ℕ → Option ℕ
counted greatest radix [] rest = None
counted greatest radix (d ∷ ds) rest =
    option_and_then (λ unit. fitting greatest (digits_value radix (d ∷ ds) * unit)) (unit_of rest)

-- the value of a number in this radix: its leading digits and its unit
abbrev pub number_in : ℕ → ℕ → List ℕ → Option ℕ
number_in greatest radix text = let is_own : ℕ → Bool = λ b. is_digit b radix in
    counted greatest radix (take_while is_own text) (drop (prefix_len is_own text) text)

-- the text begins with `0x` or `0X`
abbrev pub is_hexadecimal : List ℕ → Bool
is_hexadecimal [] = false
is_hexadecimal (b ∷ []) = false
is_hexadecimal (b ∷ c ∷ rest) = (b == digit_zero) && (to_ascii_lowercase c == letter_x)

-- the number without a sign: hexadecimal after `0x`, octal after a `0`, otherwise decimal
abbrev pub size_of : ℕ → List ℕ → Option ℕ
size_of greatest text = if is_hexadecimal text then number_in greatest 16 (drop 2 text)
    else (if begins_with digit_zero text then number_in greatest 8 text else number_in greatest 10 text)

-- the text without a leading sign
abbrev pub without_sign : List ℕ → List ℕ
without_sign text = if begins_with plus_sign text || begins_with hyphen text then drop 1 text else text

-- the absolute value of the number that the text is: white space, a sign, digits and a unit
abbrev pub number_of : ℕ → List ℕ → Option ℕ
number_of greatest text = size_of greatest (without_sign (drop (prefix_len is_c_space text) text))

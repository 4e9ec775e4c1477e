-- Quick tests for bytes that are written unescaped. Some bytes that are written so don't pass.
use Rattle.std.specs.Prelude.{ℕ, Bool, ◌||◌}
use Rattle.std.specs.Char.{is_ascii_digit, is_ascii_lowercase, is_ascii_uppercase}
use Rattle.std.specs.Int.{is_in_range}

-- a byte from `&` to `;`, from `?` to `_`, or a lower-case letter
abbrev pub is_unescaped_in_path : ℕ → Bool
is_unescaped_in_path b = is_in_range 38 59 b || is_in_range 63 95 b || is_ascii_lowercase b

-- a byte from `&` to `.`, a digit or a letter
abbrev pub is_unescaped_in_user : ℕ → Bool
is_unescaped_in_user b = is_in_range 38 46 b || is_ascii_digit b || is_ascii_uppercase b
    || is_ascii_lowercase b

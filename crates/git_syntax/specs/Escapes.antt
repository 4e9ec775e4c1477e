-- Percent-encoding, by `percent_decode` and `percent_encode` of the crate `percent_encoding`. An escape is `%`
-- and two hexadecimal digits of either case and decodes to one byte; every other byte decodes to itself.
-- Written escapes have upper-case digits, and every byte that is not ASCII is escaped.
use Rattle.std.specs.Prelude.{◌≡◌, ℕ, zero, suc, ◌+◌, ◌^◌, ◌<◌, Bool, true, false, not, ◌&&◌, ◌||◌, ◌==◌, nat_le, nat_lt, List, [], ◌∷◌, ◌++◌, codes, bytes_eq, Option, Some, None, if◌then◌else◌}
use Rattle.std.specs.List.{list_any, list_all}
use Rattle.percent_encoding.specs.declared.ascii_set.AsciiSet.{AsciiSet}
use Rattle.percent_encoding.specs.AsciiSet.{contains}
use Rattle.percent_encoding.specs.Percent.{percent_decode}
use Rattle.git_syntax.specs.Bytes.{space, percent_sign, colon, delete, is_hexadecimal, is_one_of}

-- two hexadecimal digits follow every `%`
abbrev pub is_sound : List ℕ → Bool
is_sound [] = true
is_sound (b ∷ []) = not (b == percent_sign)
is_sound (b ∷ c ∷ []) = not (b == percent_sign) && not (c == percent_sign)
is_sound (b ∷ high ∷ low ∷ rest) =
    if b == percent_sign then is_hexadecimal high && (is_hexadecimal low && is_sound rest)
    else is_sound (high ∷ low ∷ rest)

-- the text begins with two hexadecimal digits
abbrev pub begins_with_digits : List ℕ → Bool
begins_with_digits [] = false
begins_with_digits (high ∷ []) = false
begins_with_digits (high ∷ low ∷ rest) = is_hexadecimal high && is_hexadecimal low

-- the spelling decodes to the path
abbrev pub DecodesTo : List ℕ → List ℕ → Type 0
DecodesTo spelling path = percent_decode spelling ≡ path

-- whether a spelling that may be missing decodes to the path
abbrev pub matches : Option (List ℕ) → List ℕ → Bool
matches None path = false
matches (Some spelling) path = bytes_eq (percent_decode spelling) path

-- the text has a `%`
abbrev pub has_percent : List ℕ → Bool
has_percent bs = list_any (λ b. b == percent_sign) bs

-- a printable byte of ASCII
abbrev pub is_printable_byte : ℕ → Bool
is_printable_byte b = nat_lt space b && nat_lt b delete

-- each byte of the text is printable ASCII
abbrev pub is_printable : List ℕ → Bool
is_printable bs = list_all is_printable_byte bs

-- a printable byte of ASCII except for `%`
abbrev pub is_plain_byte : ℕ → Bool
is_plain_byte b = nat_lt space b && (nat_lt b delete && not (b == percent_sign))

-- each byte of the text is printable ASCII other than `%`
abbrev pub is_plain : List ℕ → Bool
is_plain bs = list_all is_plain_byte bs

-- ---- the sets of escaped bytes; every byte that is not ASCII is escaped too

-- a byte that is escaped in a path of an HTTP location: a control, a space or one of these
abbrev pub is_path_escaped : ℕ → Bool
is_path_escaped b = nat_le b space || b == delete || is_one_of (codes "\"%<>`{}") b

-- a byte that is escaped in a password: those of the path, and these
abbrev pub is_password_escaped : ℕ → Bool
is_password_escaped b = is_path_escaped b || is_one_of (codes "#/?@[\\]^|") b

-- a byte that is escaped in a user: those of the password, and `:`
abbrev pub is_user_escaped : ℕ → Bool
is_user_escaped b = is_password_escaped b || b == colon

-- the ASCII bytes below a bound that pass the test, as a number with a bit for each
abbrev pub mask_below : (ℕ → Bool) → ℕ → ℕ
mask_below test zero = 0
mask_below test (suc b) = (if test b then 2 ^ b else 0) + mask_below test b

-- the set of the ASCII bytes that pass the test
abbrev pub set_of : (ℕ → Bool) → AsciiSet
set_of test = record { mask = mask_below test 128 }

-- the set of a path
abbrev pub path_set : AsciiSet
path_set = set_of is_path_escaped

-- the set of a password
abbrev pub password_set : AsciiSet
password_set = set_of is_password_escaped

-- the set of a user
abbrev pub user_set : AsciiSet
user_set = set_of is_user_escaped

-- the set has exactly the ASCII bytes that pass the test
abbrev pub HoldsExactly : AsciiSet → (ℕ → Bool) → Type 0
HoldsExactly set test = (b : ℕ) → b < 128 → contains set b ≡ test b

-- ---- texts in which `%` is a literal character

-- the text with each `%` written as the escape of `%`
abbrev pub escaped_percents : List ℕ → List ℕ
escaped_percents [] = []
escaped_percents (b ∷ bs) = if b == percent_sign then codes "%25" ++ escaped_percents bs
    else b ∷ escaped_percents bs

-- Names of bytes, classes of bytes, tests of texts, and the start of a path.
use Rattle.std.specs.Prelude.{◌≡◌, ℕ, Bool, true, false, ◌&&◌, ◌||◌, ◌==◌, ◌⊎◌, List, [], ◌∷◌, ◌++◌, map, chars, encode_utf8_all, if◌then◌else◌}
use Rattle.std.specs.List.{list_any, list_all}
use Rattle.std.specs.Char.{to_ascii_lowercase, is_ascii_alphabetic, is_ascii_alphanumeric, is_digit, is_whitespace}
use Rattle.std.specs.Int.{is_in_range}
use Rattle.bstr.specs.Utf8.{lossy_chars}

-- `\t`
abbrev pub tab : ℕ
tab = 9

-- `\n`
abbrev pub newline : ℕ
newline = 10

-- `\r`
abbrev pub carriage_return : ℕ
carriage_return = 13

-- ` `
abbrev pub space : ℕ
space = 32

-- `#`
abbrev pub number_sign : ℕ
number_sign = 35

-- `$`
abbrev pub dollar_sign : ℕ
dollar_sign = 36

-- `%`
abbrev pub percent_sign : ℕ
percent_sign = 37

-- `&`
abbrev pub ampersand : ℕ
ampersand = 38

-- `+`
abbrev pub plus_sign : ℕ
plus_sign = 43

-- `-`
abbrev pub hyphen : ℕ
hyphen = 45

-- `.`
abbrev pub dot : ℕ
dot = 46

-- `/`
abbrev pub slash : ℕ
slash = 47

-- `0`
abbrev pub digit_zero : ℕ
digit_zero = 48

-- `:`
abbrev pub colon : ℕ
colon = 58

-- `=`
abbrev pub equals_sign : ℕ
equals_sign = 61

-- `?`
abbrev pub question_mark : ℕ
question_mark = 63

-- `@`
abbrev pub at_sign : ℕ
at_sign = 64

-- `[`
abbrev pub left_bracket : ℕ
left_bracket = 91

-- `\`
abbrev pub backslash : ℕ
backslash = 92

-- `]`
abbrev pub right_bracket : ℕ
right_bracket = 93

-- `~`
abbrev pub tilde : ℕ
tilde = 126

-- the control after `~`
abbrev pub delete : ℕ
delete = 127

-- the byte is one of these
abbrev pub is_one_of : List ℕ → ℕ → Bool
is_one_of [] b = false
is_one_of (c ∷ []) b = b == c
is_one_of (c ∷ d ∷ cs) b = b == c || is_one_of (d ∷ cs) b

-- white space as C defines it, and that of Unicode in ASCII: from `\t` to `\r`, and ` `
abbrev pub is_c_space : ℕ → Bool
is_c_space b = is_in_range tab carriage_return b || b == space

-- `/` or `\`
abbrev pub is_any_slash : ℕ → Bool
is_any_slash b = b == slash || b == backslash

-- no byte of the text passes the test
abbrev pub Lacks : (ℕ → Bool) → List ℕ → Type 0
Lacks test bs = list_any test bs ≡ false

-- the text lacks the byte
abbrev pub FreeOf : ℕ → List ℕ → Type 0
FreeOf c bs = Lacks (λ b. b == c) bs

-- the text begins with a byte that passes the test
abbrev pub begins_by : (ℕ → Bool) → List ℕ → Bool
begins_by test [] = false
begins_by test (b ∷ bs) = test b

-- the text begins with the byte
abbrev pub begins_with : ℕ → List ℕ → Bool
begins_with c bs = begins_by (λ b. b == c) bs

-- the text begins with `-`, so a program may take it for an option
abbrev pub is_option_like : List ℕ → Bool
is_option_like text = begins_with hyphen text

-- the first text occurs in the second
abbrev pub Holds : List ℕ → List ℕ → Type 0
Holds mark bs = (front : List ℕ) × (rest : List ℕ) × (bs ≡ front ++ (mark ++ rest))

-- the text in lower case; only letters of ASCII change
abbrev pub lowercase : List ℕ → List ℕ
lowercase bs = map to_ascii_lowercase bs

-- the text is already in lower case
abbrev pub IsLowercase : List ℕ → Type 0
IsLowercase bs = lowercase bs ≡ bs

-- no character of the text is white space, as Unicode defines it. This is meaningful for UTF-8 only: for other
-- bytes `chars` isn't a decoding, so `IsUtf8` is required with it
abbrev pub LacksWhiteSpace : List ℕ → Type 0
LacksWhiteSpace bs = list_any is_whitespace (chars bs) ≡ false

-- the bytes as UTF-8, with U+FFFD in place of invalid bytes
abbrev pub lossy_text : List ℕ → List ℕ
lossy_text bs = encode_utf8_all (lossy_chars bs)

-- ---- names

-- a hexadecimal digit, of either case
abbrev pub is_hexadecimal : ℕ → Bool
is_hexadecimal b = is_digit b 16

-- `+`, `-` or `.`
abbrev pub is_scheme_mark : ℕ → Bool
is_scheme_mark b = b == plus_sign || (b == hyphen || b == dot)

-- a byte of a scheme or of a helper's name after the first
abbrev pub is_name_byte : ℕ → Bool
is_name_byte b = is_ascii_alphanumeric b || is_scheme_mark b

-- a scheme: a letter, then letters, digits, `+`, `-` and `.`
abbrev pub is_scheme_text : List ℕ → Bool
is_scheme_text [] = false
is_scheme_text (b ∷ bs) = is_ascii_alphabetic b && list_all is_name_byte bs

-- the name of a remote helper: like a scheme, except that it may begin with a digit
abbrev pub is_helper_name : List ℕ → Bool
is_helper_name [] = false
is_helper_name (b ∷ bs) = is_ascii_alphanumeric b && list_all is_name_byte bs

-- ---- the start of a path

-- a query or a fragment may start at the byte: at a `?` or a `#`
abbrev pub is_query_start : ℕ → Bool
is_query_start b = b == question_mark || b == number_sign

-- a path may start at the byte: at a `/`, and on the web also at a `?` or a `#`
abbrev pub is_path_start : Bool → ℕ → Bool
is_path_start web b = b == slash || (web && is_query_start b)

-- the text is empty or starts as a path may
abbrev pub StartsPath : Bool → List ℕ → Type 0
StartsPath web p = (p ≡ []) ⊎ (begins_by (is_path_start web) p ≡ true)

-- the path without a `/` at its front
abbrev pub unrooted : List ℕ → List ℕ
unrooted [] = []
unrooted (b ∷ rest) = if b == slash then rest else b ∷ rest

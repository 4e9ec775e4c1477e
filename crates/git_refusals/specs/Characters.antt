-- The places of bytes, escapes and characters that aren't allowed, and of the first bytes that don't decode to
-- UTF-8.
use Rattle.std.specs.Prelude.{◌≡◌, ℕ, zero, suc, ◌+◌, Bool, true, false, not, ◌&&◌, ◌==◌, List, [], ◌∷◌, ◌++◌, length, drop, chars, encode_utf8, encode_utf8_all, if◌then◌else◌}
use Rattle.std.specs.List.{list_any}
use Rattle.std.specs.Str.Lossy.{utf8_valid_len, utf8_invalid_len}
use Rattle.percent_encoding.specs.Percent.{percent_decode}
use Rattle.git_syntax.specs.Bytes.{percent_sign, FreeOf, is_name_byte}
use Rattle.git_syntax.specs.Escapes.{is_sound, begins_with_digits}
use Rattle.git_syntax.specs.Hosts.{is_http_host_byte}

-- the first c of the text is at index `at`
pub record IsFirstAt (c : ℕ) (text : List ℕ) (at : ℕ) : Type 0 where
  pub before : List ℕ
  pub suffix : List ℕ
  pub first : FreeOf c before
  pub joined : text ≡ before ++ c ∷ suffix
  pub offset : at ≡ length before

-- the first `%` that two hexadecimal digits don't follow is at index `at`
pub record IsBrokenAt (text : List ℕ) (at : ℕ) : Type 0 where
  pub before : List ℕ
  pub suffix : List ℕ
  pub first : is_sound before ≡ true
  pub joined : text ≡ before ++ percent_sign ∷ suffix
  pub broken : begins_with_digits suffix ≡ false
  pub offset : at ≡ length before

-- the first character of the text that passes the test is `len` bytes long and at index `at`
pub record IsCharacterAt (wrong : ℕ → Bool) (text : List ℕ) (at len : ℕ) : Type 0 where
  pub before : List ℕ
  pub character : ℕ
  pub suffix : List ℕ
  pub first : list_any wrong before ≡ false
  pub found : wrong character ≡ true
  pub joined : chars text ≡ before ++ character ∷ suffix
  pub offset : at ≡ length (encode_utf8_all before)
  pub size : len ≡ length (encode_utf8 character)

-- a character that a scheme can't have
abbrev pub is_no_scheme_character : ℕ → Bool
is_no_scheme_character c = not (is_name_byte c)

-- a character that the host of HTTP can't have
abbrev pub is_no_host_character : ℕ → Bool
is_no_host_character c = not (is_http_host_byte c)

-- the number of bytes of a text that spell the first byte of its decoding: three for an escape, one for any
-- other byte
abbrev pub unit_len : List ℕ → ℕ
unit_len [] = 0
unit_len (b ∷ rest) = if b == percent_sign && begins_with_digits rest then 3 else 1

-- the number of bytes of a text that spell the first n bytes of its decoding
abbrev pub spelled_len : ℕ → List ℕ → ℕ
spelled_len zero text = 0
spelled_len (suc n) text = unit_len text + spelled_len n (drop (unit_len text) text)

-- the index in the text at which its decoding stops being UTF-8
abbrev pub undecodable_at : List ℕ → ℕ
undecodable_at text = spelled_len (utf8_valid_len (percent_decode text)) text

-- the number of bytes of a text that spell the invalid bytes at the front of its decoding
abbrev pub undecodable_len : List ℕ → ℕ
undecodable_len text = spelled_len (utf8_invalid_len (percent_decode text)) text

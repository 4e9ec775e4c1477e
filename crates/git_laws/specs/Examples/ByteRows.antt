-- Rows: each class of bytes, and each set of escaped ones, over all 256 bytes, with its members written out
-- in order.
use Rattle.std.specs.Prelude.{◌≡◌, ℕ, Bool, true, false, nat_lt, List, [], ◌∷◌, ◌++◌, filter, length, codes}
use Rattle.std.specs.List.{range_with_len}
use Rattle.std.specs.Char.{is_ascii_alphabetic, is_ascii_alphanumeric, is_ascii_digit, is_ascii_whitespace, is_whitespace}
use Rattle.percent_encoding.specs.declared.ascii_set.AsciiSet.{AsciiSet}
use Rattle.percent_encoding.specs.Percent.{percent_encode}
use Rattle.git_syntax.specs.Bytes.{lowercase, is_hexadecimal, is_scheme_mark, is_name_byte, is_scheme_text, is_helper_name, is_path_start, is_option_like, is_c_space, is_any_slash}
use Rattle.git_syntax.specs.Escapes.{path_set, password_set, user_set, is_path_escaped, is_password_escaped, is_user_escaped, is_plain_byte}
use Rattle.git_syntax.specs.Addresses.{is_zone_byte}
use Rattle.git_syntax.specs.Hosts.{is_dns_byte, is_http_host_byte}
use Rattle.git_location.specs.Internal.KeptBytes.{is_unescaped_in_path, is_unescaped_in_user}
use Rattle.git_class.specs.GitClass.{is_contested}

-- the bytes that pass the test, in order
abbrev pub members : (ℕ → Bool) → List ℕ
members test = filter test (range_with_len 0 256)

-- the bytes that the set escapes, in order
abbrev pub escaped_members : AsciiSet → List ℕ
escaped_members set = members (λ b. nat_lt 1 (length (percent_encode set (b ∷ []))))

-- ---- names

-- letters and digits, and the bytes of the names of schemes and of remote helpers
abbrev pub NameByteRows : Type 0
NameByteRows =
    (members is_ascii_digit ≡ codes "0123456789")
    × (members is_ascii_alphabetic ≡ codes "ABCDEFGHIJKLMNOPQRSTUVWXYZabcdefghijklmnopqrstuvwxyz")
    × (members is_ascii_alphanumeric ≡ codes "0123456789ABCDEFGHIJKLMNOPQRSTUVWXYZabcdefghijklmnopqrstuvwxyz")
    × (members is_hexadecimal ≡ codes "0123456789ABCDEFabcdef")
    × (members is_scheme_mark ≡ codes "+-.")
    × (members is_name_byte ≡ codes "+-.0123456789ABCDEFGHIJKLMNOPQRSTUVWXYZabcdefghijklmnopqrstuvwxyz")
    × (members (λ b. is_scheme_text (b ∷ [])) ≡ codes "ABCDEFGHIJKLMNOPQRSTUVWXYZabcdefghijklmnopqrstuvwxyz")
    × (members (λ b. is_helper_name (b ∷ [])) ≡ codes "0123456789ABCDEFGHIJKLMNOPQRSTUVWXYZabcdefghijklmnopqrstuvwxyz")

-- ---- hosts, zones and marks

-- the bytes of hosts and zones, the bytes at which a path starts, and those that the length test skips
abbrev pub HostByteRows : Type 0
HostByteRows =
    (members is_dns_byte ≡ codes "*-.0123456789ABCDEFGHIJKLMNOPQRSTUVWXYZ_abcdefghijklmnopqrstuvwxyz")
    × (members is_http_host_byte ≡ codes "!$%&'()*+,-.0123456789;=ABCDEFGHIJKLMNOPQRSTUVWXYZ_abcdefghijklmnopqrstuvwxyz~")
    × (members is_zone_byte ≡ codes "%-.0123456789ABCDEFGHIJKLMNOPQRSTUVWXYZ_abcdefghijklmnopqrstuvwxyz~")
    × (members (is_path_start false) ≡ codes "/")
    × (members (is_path_start true) ≡ codes "#/?")
    × (members is_any_slash ≡ codes "/\\")
    × (members (λ b. is_option_like (b ∷ [])) ≡ codes "-")
    × (lowercase (range_with_len 0 256) ≡ range_with_len 0 65 ++ (codes "abcdefghijklmnopqrstuvwxyz" ++ range_with_len 91 165))

-- white space of ASCII, and Unicode's White_Space with its neighbours
abbrev pub WhiteSpaceRows : Type 0
WhiteSpaceRows =
    (members is_ascii_whitespace ≡ 9 ∷ 10 ∷ 12 ∷ 13 ∷ 32 ∷ [])
    × (members is_whitespace ≡ 9 ∷ 10 ∷ 11 ∷ 12 ∷ 13 ∷ 32 ∷ 133 ∷ 160 ∷ [])
    × (filter is_whitespace (range_with_len 5750 20) ≡ 5760 ∷ [])
    × (filter is_whitespace (range_with_len 8180 120) ≡ range_with_len 8192 11 ++ (8232 ∷ 8233 ∷ 8239 ∷ 8287 ∷ []))
    × (filter is_whitespace (range_with_len 12280 20) ≡ 12288 ∷ [])

-- the bytes that Git reads as white space before a port, and those at which it cuts a text differently
abbrev pub GitByteRows : Type 0
GitByteRows =
    (members is_c_space ≡ 9 ∷ 10 ∷ 11 ∷ 12 ∷ 13 ∷ 32 ∷ [])
    × (members is_contested ≡ 0 ∷ codes "[]")

-- ---- escapes

-- the bytes that quick tests accept: those of plain text, and some that are written unescaped in a path and in
-- a user
abbrev pub QuickByteRows : Type 0
QuickByteRows =
    (members is_plain_byte ≡ codes "!\"#$&'()*+,-./0123456789:;<=>?@ABCDEFGHIJKLMNOPQRSTUVWXYZ[\\]^_`abcdefghijklmnopqrstuvwxyz{|}~")
    × (members is_unescaped_in_path ≡ codes "&'()*+,-./0123456789:;?@ABCDEFGHIJKLMNOPQRSTUVWXYZ[\\]^_abcdefghijklmnopqrstuvwxyz")
    × (members is_unescaped_in_user ≡ codes "&'()*+,-.0123456789ABCDEFGHIJKLMNOPQRSTUVWXYZabcdefghijklmnopqrstuvwxyz")

-- the ASCII bytes that are escaped in a path, a password and a user
abbrev pub EscapedByteRows : Type 0
EscapedByteRows =
    (members is_path_escaped ≡ range_with_len 0 32 ++ (codes " \"%<>`{}" ++ 127 ∷ []))
    × (members is_password_escaped ≡ range_with_len 0 32 ++ (codes " \"#%/<>?@[\\]^`{|}" ++ 127 ∷ []))
    × (members is_user_escaped ≡ range_with_len 0 32 ++ (codes " \"#%/:<>?@[\\]^`{|}" ++ 127 ∷ []))

-- the bytes that the sets escape: those, and every byte that is not ASCII
abbrev pub EscapeSetRows : Type 0
EscapeSetRows =
    (escaped_members path_set ≡ range_with_len 0 32 ++ (codes " \"%<>`{}" ++ 127 ∷ range_with_len 128 128))
    × (escaped_members password_set ≡ range_with_len 0 32 ++ (codes " \"#%/<>?@[\\]^`{|}" ++ 127 ∷ range_with_len 128 128))
    × (escaped_members user_set ≡ range_with_len 0 32 ++ (codes " \"#%/:<>?@[\\]^`{|}" ++ 127 ∷ range_with_len 128 128))

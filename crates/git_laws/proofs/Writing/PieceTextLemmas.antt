-- Pieces of a written URL: bytes of a class, encodings, and pieces joined.
use Rattle.std.proofs.Common.{◌≡◌, ◌∙◌, ℕ, ◌<◌, Bool, true, false, not, ◌&&◌, ◌||◌, ◌==◌, nat_lt, List, [], ◌∷◌, ◌++◌, Option, Some, None, IfSome, IsUtf8, refl, arith}
use Rattle.std.specs.Fmt.{decimal}
use Rattle.std.specs.List.{list_all}
use Rattle.std.specs.Char.{is_ascii_digit, is_whitespace}
use Rattle.std.proofs.lemmas.Bool.{and_parts, both_ways, false_from_ne_true, not-true, or_left, or_right}
use Rattle.std.proofs.lemmas.Bool.Decides.{nat_tests}
use Rattle.std.proofs.lemmas.Str.{IsUtf8-from_ascii, IsUtf8-append}
use Rattle.percent_encoding.specs.declared.ascii_set.AsciiSet.{AsciiSet}
use Rattle.percent_encoding.specs.AsciiSet.{contains}
use Rattle.percent_encoding.specs.Percent.{percent_decode, percent_encode}
use Rattle.git_syntax.specs.declared.escape.TheConstants.{PASSWORD, USER}
use Rattle.git_syntax.specs.Bytes.{percent_sign, colon, at_sign, left_bracket, backslash, FreeOf, is_name_byte, is_scheme_text, is_path_start}
use Rattle.git_syntax.specs.Escapes.{is_sound, is_password_escaped}
use Rattle.git_syntax.specs.Addresses.{IsIpv6Text}
use Rattle.git_syntax.specs.Hosts.{port_part}
use Rattle.git_laws.proofs.Writing.WrittenPieces.{IsEscapedPiece, IsAuthorityPiece}
use Rattle.git_syntax.proofs.Texts.CutLemmas.{all_weaker, free-append, free_of_all, helper_name_bytes, lacks-append, lacks_of_all, scheme_helper_name}
use Rattle.git_syntax.proofs.Texts.EscapeLemmas.{ascii_class, decode_encode_utf8, encode_free, encode_lacks, encode_sound, sound-append, sound_free, utf8_encode, white_space-append, white_space_ascii, white_space_encode}
use Rattle.git_syntax.proofs.Texts.EscapeSets.{password_holds, user_holds}
use Rattle.git_syntax.proofs.Addresses.AddressLemmas.{is_address_byte, address_bytes}
use Rattle.git_syntax.proofs.Parsing.HostLemmas.{decimal_digits}

-- a piece of an authority without `@`: of a host and a port
pub record IsHostPiece (t : List ℕ) : Type 0 where
  pub no_at : FreeOf at_sign t
  pub piece : IsAuthorityPiece t

-- ---- pieces joined

-- escaped pieces joined are an escaped piece
pub joined_escaped : (xs ys : List ℕ) → IsEscapedPiece xs → IsEscapedPiece ys → IsEscapedPiece (xs ++ ys)
joined_escaped xs ys front back = grind (arith, nat_tests, IsUtf8-append, sound-append, white_space-append)

-- pieces of an authority joined are a piece of an authority
pub joined_pieces : (xs ys : List ℕ) → IsAuthorityPiece xs → IsAuthorityPiece ys → IsAuthorityPiece (xs ++ ys)
joined_pieces xs ys front back = record {
  escaped = joined_escaped xs ys front.escaped back.escaped;
  no_backslash = free-append backslash xs ys front.no_backslash back.no_backslash;
  before_path = lacks-append (is_path_start true) xs ys front.before_path back.before_path;
}

-- and so are those without `@`
pub joined_hosts : (xs ys : List ℕ) → IsHostPiece xs → IsHostPiece ys → IsHostPiece (xs ++ ys)
joined_hosts xs ys front back = record { no_at = free-append at_sign xs ys front.no_at back.no_at; piece = joined_pieces xs ys front.piece back.piece }

-- ---- bytes of a class

-- a byte of an escaped piece: ASCII, and no white space
abbrev pub is_escaped_byte : ℕ → Bool
is_escaped_byte b = nat_lt b 128 && not (is_whitespace b)

-- one of an authority: such a byte, but `\` and those that start a path
abbrev pub is_authority_byte : ℕ → Bool
is_authority_byte b = is_escaped_byte b && not (b == backslash || is_path_start true b)

-- one of a host and a port: such a byte, but `@`
abbrev pub is_host_byte : ℕ → Bool
is_host_byte b = is_authority_byte b && not (b == at_sign)

-- a text of such bytes in which every escape is sound is an escaped piece
pub escaped_piece : (t : List ℕ) → list_all is_escaped_byte t ≡ true → is_sound t ≡ true → IsEscapedPiece t
escaped_piece t h1 h2 = grind (arith, nat_tests, ascii_class, IsUtf8-from_ascii, white_space_ascii, lacks_of_all, not-true, and_parts)

-- one of bytes of an authority is a piece of an authority
pub authority_piece : (t : List ℕ) → list_all is_authority_byte t ≡ true → is_sound t ≡ true → IsAuthorityPiece t
authority_piece t h sound = record {
  escaped = escaped_piece t (all_weaker is_authority_byte is_escaped_byte (λ b is. (and_parts _ _ is).0) t h) sound;
  no_backslash = free_of_all is_authority_byte backslash t h refl;
  before_path = lacks_of_all is_authority_byte (is_path_start true) (λ b is. grind (arith, nat_tests)) t h;
}

-- and one of bytes of a host and a port is one without `@`
pub host_piece : (t : List ℕ) → list_all is_host_byte t ≡ true → is_sound t ≡ true → IsHostPiece t
host_piece t h sound = grind (arith, nat_tests, authority_piece, all_weaker, and_parts, free_of_all)

-- so is one of a narrower class of bytes without `%`
pub class_piece : (test : ℕ → Bool) → ((b : ℕ) → test b ≡ true → is_host_byte b ≡ true) → test percent_sign ≡ false → (t : List ℕ) → list_all test t ≡ true → IsHostPiece t
class_piece test within plain t h = host_piece t (all_weaker test is_host_byte within t h) (sound_free t (free_of_all test percent_sign t h plain))

-- so is a scheme
pub scheme_piece : (s : List ℕ) → is_scheme_text s ≡ true → IsHostPiece s
scheme_piece s h = class_piece is_name_byte (λ b is. grind (arith, nat_tests)) refl s (helper_name_bytes s (scheme_helper_name s h))

-- so is an address
pub address_piece : (t : List ℕ) → IsIpv6Text t → IsHostPiece t
address_piece t h = class_piece is_address_byte (λ b is. grind (arith, nat_tests)) refl t (address_bytes t h)

-- so are `[`, such a piece and another one, joined
pub brackets_piece : (t rest : List ℕ) → IsHostPiece t → IsHostPiece rest → IsHostPiece (left_bracket ∷ (t ++ rest))
brackets_piece t rest inner suffix = joined_hosts (left_bracket ∷ []) (t ++ rest) (host_piece (left_bracket ∷ []) refl refl) (joined_hosts t rest inner suffix)

-- so is a port after its colon
pub port_piece : (port : Option ℕ) → IfSome port (λ p. p < 65536) → IsHostPiece (port_part port)
port_piece None small = host_piece [] refl refl
port_piece (Some p) small =
    joined_hosts (colon ∷ []) (decimal p) (host_piece (colon ∷ []) refl refl) (class_piece is_ascii_digit (λ b is. grind (arith, nat_tests)) refl (decimal p) (decimal_digits p small).1)

-- ---- encodings

-- white space of ASCII and bytes that start a path are escaped in a password
password_has : (b : ℕ) → b < 128 → (is_whitespace b || is_path_start true b) ≡ true → is_password_escaped b ≡ true
password_has b ascii h = grind (arith, nat_tests)

-- a text written by a set that has the bytes escaped in a password is such a piece
encoded_piece : (set : AsciiSet) (t : List ℕ) → ((b : ℕ) → b < 128 → is_password_escaped b ≡ true → contains set b ≡ true) → IsHostPiece (percent_encode set t)
encoded_piece set t has = record {
  no_at = encode_free set t at_sign (has at_sign (omega arith) refl) refl;
  piece = record {
    escaped = record {
      text = utf8_encode set t;
      sound = encode_sound set t (has percent_sign (omega arith) refl);
      no_white_space = white_space_encode set t (λ b ascii space. has b ascii (password_has b ascii (or_left _ _ space)));
    };
    no_backslash = encode_free set t backslash (has backslash (omega arith) refl) refl;
    before_path = encode_lacks (is_path_start true) set t
        (λ b ascii out. false_from_ne_true _ (λ starts. both_ways _ out (has b ascii (password_has b ascii (or_right _ _ starts)))))
        (λ b escape. grind (arith, nat_tests));
  };
}

-- so is a written user
pub user_piece : (user : List ℕ) → IsHostPiece (percent_encode USER user)
user_piece user = encoded_piece USER user (λ b ascii is. user_holds b ascii ∙ or_left _ _ is)

-- and a written password
pub password_piece : (password : List ℕ) → IsHostPiece (percent_encode PASSWORD password)
password_piece password = encoded_piece PASSWORD password (λ b ascii is. password_holds b ascii ∙ is)

-- a written user is free of `:`
pub user_no_colon : (user : List ℕ) → FreeOf colon (percent_encode USER user)
user_no_colon user = encode_free USER user colon (user_holds colon (omega arith)) refl

-- it decodes to the user
pub user_decoded : (user : List ℕ) → IsUtf8 user → percent_decode (percent_encode USER user) ≡ user
user_decoded user text = decode_encode_utf8 USER user (user_holds percent_sign (omega arith)) text

-- and a written password to the password
pub password_decoded : (password : List ℕ) → IsUtf8 password → percent_decode (percent_encode PASSWORD password) ≡ password
password_decoded password text = decode_encode_utf8 PASSWORD password (password_holds percent_sign (omega arith)) text

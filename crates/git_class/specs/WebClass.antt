-- The class of locations of HTTP in whose texts all readers read the same fields: this library, Git's
-- credential code, and a reader of URIs.
use Rattle.std.specs.Prelude.{◌≡◌, ℕ, Bool, true, false, ◌||◌, ◌==◌, nat_lt, ◌⊎◌, List, [], ◌∷◌, ◌++◌, codes, IfSome}
use Rattle.std.specs.List.{list_all}
use Rattle.std.specs.Char.{is_ascii_alphanumeric, is_ascii_lowercase, is_ascii_digit}
use Rattle.percent_encoding.specs.Percent.{percent_encode}
use Rattle.git_syntax.specs.Location.{Location}
use Rattle.git_syntax.specs.Bytes.{space, number_sign, percent_sign, dot, slash, colon, question_mark, delete, Lacks, FreeOf, begins_by, begins_with, is_one_of}
use Rattle.git_syntax.specs.Escapes.{password_set}
use Rattle.git_syntax.specs.Addresses.{IsIpv4Text}
use Rattle.git_location.specs.Text.{canonical_path}
use Rattle.git_location.specs.Settled.{begins_with_slashes, IsBracketedAddress, IsSettled, HasPart}

-- a control character of ASCII
abbrev pub is_control : ℕ → Bool
is_control b = nat_lt b space || b == delete

-- Git's credential code decodes all of a written piece, because no colon precedes an escape: the piece has no
-- colon or no escape
abbrev pub IsDecodedWhole : List ℕ → Type 0
IsDecodedWhole piece = FreeOf colon piece ⊎ FreeOf percent_sign piece

-- ---- hosts

-- a lower-case letter, a digit, `-`, `.` or `_`
abbrev pub is_plain_host_byte : ℕ → Bool
is_plain_host_byte b = is_ascii_lowercase b || (is_ascii_digit b || is_one_of (codes "-._") b)

-- the text after the last `.` of a name, or the whole name
abbrev pub IsLastLabel : List ℕ → List ℕ → Type 0
IsLastLabel name label = (FreeOf dot name × (label ≡ name))
    ⊎ ((front : List ℕ) × FreeOf dot label × (name ≡ front ++ dot ∷ label))

-- a name of plain host bytes that no reader reads as a number, because its last label begins with a letter
pub record IsPlainName (name : List ℕ) : Type 0 where
  pub bytes : list_all is_plain_host_byte name ≡ true
  pub label : List ℕ
  pub last : IsLastLabel name label
  pub letter : begins_by is_ascii_lowercase label ≡ true

-- a host that all readers read alike: a plain name, an IPv4 address, or an IPv6 address in brackets
abbrev pub IsUnambiguousHost : List ℕ → Type 0
IsUnambiguousHost host = IsPlainName host ⊎ (IsIpv4Text host ⊎ IsBracketedAddress host)

-- there is a host that all readers read alike
abbrev pub HasUnambiguousHost : Location → Type 0
HasUnambiguousHost v = HasPart v.host IsUnambiguousHost

-- ---- user and password

-- a user without a control character and without a colon, which would end it in the header of a request (RFC
-- 7617)
abbrev pub IsUnambiguousUser : List ℕ → Type 0
IsUnambiguousUser user = Lacks is_control user × FreeOf colon user

-- a password without a control character that Git decodes whole
abbrev pub IsUnambiguousPassword : List ℕ → Type 0
IsUnambiguousPassword password = Lacks is_control password
    × IsDecodedWhole (percent_encode password_set password)

-- ---- paths

-- a byte of a path or a query in a URI (RFC 3986): a letter, a digit, a mark, or the `%` of an escape
abbrev pub is_uri_byte : ℕ → Bool
is_uri_byte b = is_ascii_alphanumeric b || is_one_of (codes "-._~!$&'()*+,;=:@/?%") b

-- a segment ends at a `/` or a `?`
abbrev pub is_segment_end : ℕ → Bool
is_segment_end b = b == slash || b == question_mark

-- a segment that readers remove: `.` or `..`
abbrev pub IsDots : List ℕ → Type 0
IsDots segment = (segment ≡ codes ".") ⊎ (segment ≡ codes "..")

-- a segment `.` or `..` follows a `/`; readers remove such segments
pub record HasDotSegment (path : List ℕ) : Type 0 where
  pub front : List ℕ
  pub dots : List ℕ
  pub suffix : List ℕ
  pub joined : path ≡ front ++ slash ∷ (dots ++ suffix)
  pub segment : IsDots dots
  pub end : (suffix ≡ []) ⊎ (begins_by is_segment_end suffix ≡ true)

-- a path that all readers cut and decode alike: it begins with one `/`, no reader drops a part of it, and it is
-- written in the bytes of a URI
pub record HasUnambiguousPath (v : Location) : Type 0 where
  pub rooted : begins_with slash v.path ≡ true
  pub one_slash : begins_with_slashes v.path ≡ false
  pub no_control : Lacks is_control v.path
  pub no_fragment : FreeOf number_sign v.path
  pub no_dots : ¬ HasDotSegment v.path
  pub query : (front : List ℕ) → ¬ (v.path ≡ front ++ question_mark ∷ [])
  pub bytes : list_all is_uri_byte (canonical_path v) ≡ true
  pub whole : IsDecodedWhole (canonical_path v)

-- ---- locations

-- the HTTP location is in the class of locations in whose texts this library, Git's credential code and a
-- reader of URIs read the same fields
pub record AgreesOverWeb (v : Location) : Type 0 where
  pub settled : IsSettled v
  pub host : HasUnambiguousHost v
  pub user : IfSome v.user IsUnambiguousUser
  pub password : IfSome v.password IsUnambiguousPassword
  pub path : HasUnambiguousPath v

-- The readings of the text of a location of HTTP by two other readers: Git's credential code, and a reader of
-- URIs of RFC 3986, like libcurl for texts in the normal form. This is a model of libcurl, not proved of it:
-- `tests/witnesses/test_web.py` compares the two.
use Rattle.std.specs.Prelude.{◌≡◌, ℕ, ◌<◌, Bool, true, false, ◌||◌, ◌==◌, ◌⊎◌, List, [], ◌∷◌, ◌++◌, decimal, codes, Option, Some, None, IfSome, option_map, if◌then◌else◌}
use Rattle.std.specs.List.{list_all}
use Rattle.std.specs.Char.{is_ascii_alphanumeric, is_ascii_digit}
use Rattle.percent_encoding.specs.Percent.{percent_decode}
use Rattle.git_syntax.specs.Location.{Location}
use Rattle.git_syntax.specs.Bytes.{newline, slash, colon, question_mark, at_sign, left_bracket, right_bracket, Lacks, FreeOf, begins_with, Holds, IsLowercase, is_one_of, is_scheme_text, is_path_start, StartsPath}
use Rattle.git_syntax.specs.Escapes.{is_sound}
use Rattle.git_syntax.specs.Addresses.{IsIpv6Text}
use Rattle.git_syntax.specs.Schemes.{scheme_text}
use Rattle.git_syntax.specs.Hosts.{port_part}
use Rattle.git_class.specs.WebClass.{is_uri_byte, HasDotSegment}
use Rattle.git_laws.specs.Components.{CutsPath}
use Rattle.git_reads.specs.Credentials.{CredentialReading, CredentialReads, trimmed_path}

-- ---- URIs

-- the components of a URI, undecoded (RFC 3986, section 3)
pub record UriReading : Type 0 where
  pub scheme : List ℕ
  pub information : Option (List ℕ)
  pub host : List ℕ
  pub port : Option (List ℕ)
  pub path : List ℕ
  pub query : Option (List ℕ)
  pub fragment : Option (List ℕ)

-- an authority consists of user information before its only `@`, and a host with its port
pub data UriAuthority (authority : List ℕ) (information : Option (List ℕ))
    (named : List ℕ) : Type 0 where
  host_alone : FreeOf at_sign authority → named ≡ authority → information ≡ None
      → UriAuthority authority information named
  informed : (i : List ℕ) → FreeOf at_sign i → FreeOf at_sign named
      → authority ≡ i ++ at_sign ∷ named → information ≡ Some i
      → UriAuthority authority information named

-- the empty text, or a colon and the digits of a port
pub data UriPort (suffix : List ℕ) (port : Option (List ℕ)) : Type 0 where
  absent : suffix ≡ [] → port ≡ None → UriPort suffix port
  there : (digits : List ℕ) → suffix ≡ colon ∷ digits → list_all is_ascii_digit digits ≡ true
      → port ≡ Some digits → UriPort suffix port

-- a host and the text after it: an IPv6 address in brackets, or a name or an IPv4 address
pub data UriHost (named host suffix : List ℕ) : Type 0 where
  bracketed : (inside : List ℕ) → IsIpv6Text inside
      → host ≡ left_bracket ∷ (inside ++ right_bracket ∷ [])
      → named ≡ host ++ suffix → UriHost named host suffix
  unbracketed : FreeOf colon host → begins_with left_bracket host ≡ false → named ≡ host ++ suffix
      → UriHost named host suffix

-- a letter, a digit, a mark that is not a delimiter of a URI, or the `%` of an escape
abbrev pub is_host_byte : ℕ → Bool
is_host_byte b = is_ascii_alphanumeric b || is_one_of (codes "-._~!$&'()*+,;=%") b

-- each byte of the text passes the test, and each `%` begins an escape
abbrev pub IsEscaped : (ℕ → Bool) → List ℕ → Type 0
IsEscaped test t = (list_all test t ≡ true) × (is_sound t ≡ true)

-- the components have only bytes that RFC 3986 allows
pub record HasUriBytes (r : UriReading) : Type 0 where
  pub scheme : is_scheme_text r.scheme ≡ true
  pub information : IfSome r.information (IsEscaped (λ b. is_host_byte b || b == colon))
  pub host : (begins_with left_bracket r.host ≡ true) ⊎ IsEscaped is_host_byte r.host
  pub path : IsEscaped is_uri_byte r.path
  pub query : IfSome r.query (IsEscaped is_uri_byte)
  pub fragment : IfSome r.fragment (IsEscaped is_uri_byte)

-- the text is a URI with an authority, and has these components
pub record UriReads (t : List ℕ) (r : UriReading) : Type 0 where
  pub authority : List ℕ
  pub suffix : List ℕ
  pub named : List ℕ
  pub after_host : List ℕ
  pub joined : t ≡ r.scheme ++ (codes "://" ++ (authority ++ suffix))
  pub before_path : Lacks (is_path_start true) authority
  pub path_start : StartsPath true suffix
  pub cut : UriAuthority authority r.information named
  pub host : UriHost named r.host after_host
  pub port : UriPort after_host r.port
  pub path : CutsPath suffix r.path r.query r.fragment
  pub bytes : HasUriBytes r

-- a text has at most one reading as a URI
abbrev pub OneUriReading : Type 0
OneUriReading = (t : List ℕ) (r other : UriReading) → UriReads t r → UriReads t other → r ≡ other

-- the URI is in the normal form, as far as readers normalize it: scheme and host in lower case, and no segment
-- `.` or `..`, escaped or not
pub record IsNormalUri (r : UriReading) : Type 0 where
  pub scheme : IsLowercase r.scheme
  pub host : IsLowercase r.host
  pub path : ¬ HasDotSegment r.path
  pub escaped : ¬ HasDotSegment (percent_decode r.path)

-- ---- the location's own fields

-- a path without its first byte, as Git's credential code reads it
abbrev pub below_root : List ℕ → Option (List ℕ)
below_root [] = None
below_root (b ∷ bs) = trimmed_path bs

-- the location's own fields, as Git's credential code reads them: the host with its port, and the path without
-- the slashes around it
abbrev pub own_credential : Location → List ℕ → CredentialReading
own_credential v host_text = record {
  protocol = scheme_text v.scheme;
  user = v.user;
  password = v.password;
  host = host_text ++ port_part v.port;
  path = below_root v.path;
}

-- user information that decodes to a user and, after its colon, to a password
pub data IsOwnInformation (user password information : Option (List ℕ)) : Type 0 where
  absent : user ≡ None → password ≡ None → information ≡ None
      → IsOwnInformation user password information
  user_alone : (u i : List ℕ) → user ≡ Some u → password ≡ None → information ≡ Some i
      → FreeOf colon i → percent_decode i ≡ u → IsOwnInformation user password information
  with_password : (u p a b : List ℕ) → user ≡ Some u → password ≡ Some p
      → information ≡ Some (a ++ colon ∷ b) → FreeOf colon a
      → percent_decode a ≡ u → percent_decode b ≡ p → IsOwnInformation user password information

-- a path with the query after it, undecoded
abbrev pub with_query : List ℕ → Option (List ℕ) → List ℕ
with_query path None = path
with_query path (Some query) = path ++ question_mark ∷ query

-- the components of the URI are the location's own: they decode to its fields, and there is no fragment
pub record IsOwnUri (v : Location) (r : UriReading) : Type 0 where
  pub scheme : r.scheme ≡ scheme_text v.scheme
  pub information : IsOwnInformation v.user v.password r.information
  pub host : v.host ≡ Some r.host
  pub port : r.port ≡ option_map decimal v.port
  pub path : percent_decode (with_query r.path r.query) ≡ v.path
  pub fragment : r.fragment ≡ None

-- both readers read the location's own fields in the text
pub record ReadsOwnOverWeb (t : List ℕ) (v : Location) : Type 0 where
  pub host : List ℕ
  pub there : v.host ≡ Some host
  pub credential : CredentialReads t (own_credential v host)
  pub uri : UriReading
  pub reads : UriReads t uri
  pub own : IsOwnUri v uri
  pub normal : IsNormalUri uri

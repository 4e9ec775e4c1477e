-- The parts of unambiguous texts: hosts, user information and paths in which all readers that were tested
-- find exactly the written text.
use Rattle.std.specs.Prelude.{◌≡◌, ℕ, ◌<◌, ◌≤◌, Bool, true, false, ◌||◌, ◌==◌, ◌⊎◌, List, [], ◌∷◌, ◌++◌, length, codes, bytes_eq, Option, None}
use Rattle.std.specs.List.{list_all}
use Rattle.std.specs.Char.{is_ascii_alphanumeric, is_ascii_lowercase, is_ascii_digit}
use Rattle.git_syntax.specs.Bytes.{hyphen, dot, slash, colon, at_sign, backslash, FreeOf, Holds, begins_by, begins_with, is_one_of, is_option_like}
use Rattle.git_syntax.specs.Schemes.{is_ftp, is_known_scheme}
use Rattle.git_syntax.specs.Addresses.{IsIpv4Text}
use Rattle.git_class.specs.WebClass.{is_control, IsDots}

-- ---- hosts

-- a byte at the ends of a label: a lower-case letter or a digit
abbrev pub is_label_end : ℕ → Bool
is_label_end b = is_ascii_lowercase b || is_ascii_digit b

-- a byte of a label: one of these, or `-`
abbrev pub is_label_byte : ℕ → Bool
is_label_byte b = is_label_end b || b == hyphen

-- the label is that of an internationalized name (RFC 5890)
abbrev pub IsPunycode : List ℕ → Type 0
IsPunycode label = (rest : List ℕ) × (label ≡ codes "xn--" ++ rest)

-- a label of a host (RFC 1123): at most 63 letters, digits and inner `-`
pub record IsPlainLabel (label : List ℕ) : Type 0 where
  pub bytes : list_all is_label_byte label ≡ true
  pub begins : begins_by is_label_end label ≡ true
  pub ends : (front : List ℕ) → ¬ (label ≡ front ++ hyphen ∷ [])
  pub short : length label ≤ 63
  pub no_punycode : ¬ IsPunycode label

-- plain labels joined by dots, of which the last begins with a letter: no reader reads the name as a number
pub data AreLabels : List ℕ → Type 0 where
  last : (label : List ℕ) → IsPlainLabel label → begins_by is_ascii_lowercase label ≡ true
      → AreLabels label
  more : (host label rest : List ℕ) → IsPlainLabel label → AreLabels rest
      → host ≡ label ++ dot ∷ rest → AreLabels host

-- the host begins with two labels of digits, as an IPv4 address does
pub record BeginsWithNumbers (host : List ℕ) : Type 0 where
  pub first : List ℕ
  pub second : List ℕ
  pub rest : List ℕ
  pub joined : host ≡ first ++ dot ∷ (second ++ dot ∷ rest)
  pub first_digits : list_all is_ascii_digit first ≡ true
  pub second_digits : list_all is_ascii_digit second ≡ true

-- a name that every reader reads as the same name
pub record IsPlainName (host : List ℕ) : Type 0 where
  pub labels : AreLabels host
  pub short : length host ≤ 253
  pub no_numbers : ¬ BeginsWithNumbers host

-- a name that every reader reads as the same name, or an IPv4 address
abbrev pub IsCommonHost : List ℕ → Type 0
IsCommonHost host = IsPlainName host ⊎ IsIpv4Text host

-- ---- user information

-- a letter, a digit, `-`, `.`, `_` or `~`: the unreserved bytes of RFC 3986
abbrev pub is_unreserved : ℕ → Bool
is_unreserved b = is_ascii_alphanumeric b || is_one_of (codes "-._~") b

-- a user or a password of unreserved bytes
pub record IsPlainWord (word : List ℕ) : Type 0 where
  pub nonempty : begins_by is_unreserved word ≡ true
  pub bytes : list_all is_unreserved word ≡ true

-- a user of unreserved bytes that isn't read as an option
pub record IsPlainUser (user : List ℕ) : Type 0 where
  pub word : IsPlainWord user
  pub no_option : is_option_like user ≡ false

-- ---- paths

-- a byte of the path of a URL that no reader escapes, decodes or ends the path at
abbrev pub is_path_byte : ℕ → Bool
is_path_byte b = is_ascii_alphanumeric b || is_one_of (codes "-._~!$&()*+,=:@/") b

-- a byte of the path in the scp form
abbrev pub is_scp_byte : ℕ → Bool
is_scp_byte b = is_ascii_alphanumeric b || is_one_of (codes "-._~+,=/") b

-- a byte for which readers don't regard a text as a local path: a control character, `:` or `\`
abbrev pub is_odd_local : ℕ → Bool
is_odd_local b = is_control b || (b == colon || b == backslash)

-- `-`, or a byte and `:`, which readers of Secure Shell, of `git://` and of files read as an option or a drive
abbrev pub is_odd_start : List ℕ → Bool
is_odd_start [] = false
is_odd_start (b ∷ rest) = b == hyphen || begins_with colon rest

-- a segment `.` or `..` is the whole path, its first segment, or a later one
pub data HasDots : List ℕ → Type 0 where
  whole : (path : List ℕ) → IsDots path → HasDots path
  first : (path segment rest : List ℕ) → IsDots segment → path ≡ segment ++ slash ∷ rest → HasDots path
  later : (path front rest : List ℕ) → HasDots rest → path ≡ front ++ slash ∷ rest → HasDots path

-- the path of the scp form begins with digits and `/`, which readers read as a port
pub record BeginsWithPort (path : List ℕ) : Type 0 where
  pub digits : List ℕ
  pub rest : List ℕ
  pub nonempty : begins_by is_ascii_digit digits ≡ true
  pub number : list_all is_ascii_digit digits ≡ true
  pub joined : path ≡ digits ++ slash ∷ rest

-- the text has a `/` that a byte follows
pub record HasSlashBefore (text : List ℕ) : Type 0 where
  pub front : List ℕ
  pub suffix : List ℕ
  pub joined : text ≡ front ++ slash ∷ suffix
  pub nonempty : 0 < length suffix

-- the path has a `/` between two bytes
abbrev pub HasInnerSlash : List ℕ → Type 0
HasInnerSlash [] = ⊥
HasInnerSlash (b ∷ rest) = HasSlashBefore rest

-- two slashes in sequence
abbrev pub slashes : List ℕ
slashes = codes "//"

-- a local path without `//` that isn't just `/`. If it doesn't begin with `/`, it has no `@`, which some
-- readers read as the end of a user
pub record IsPlainLocal (path : List ℕ) : Type 0 where
  pub no_slashes : ¬ Holds slashes path
  pub no_root : ¬ (path ≡ codes "/")
  pub no_at : begins_with slash path ≡ false → FreeOf at_sign path

-- ---- hosts of the scp form

-- the word is a scheme that readers of URLs know
abbrev pub is_scheme_word : List ℕ → Bool
is_scheme_word word = is_known_scheme word || (is_ftp word || (bytes_eq word (codes "rsync")
    || (bytes_eq word (codes "svn") || (bytes_eq word (codes "sftp")
    || (bytes_eq word (codes "ws") || bytes_eq word (codes "wss"))))))

-- a host that readers don't read as a drive, nor, without a user, as a scheme
pub record IsPlainScpHost (user : Option (List ℕ)) (host : List ℕ) : Type 0 where
  pub long : 1 < length host
  pub no_scheme : user ≡ None → is_scheme_word host ≡ false

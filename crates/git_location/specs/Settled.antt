-- The settled class, one definition for each kind. The text of each of its locations is read as a location
-- with the same public fields and the same text. Some other locations have this property too.
use Rattle.std.specs.Prelude.{◌≡◌, ◌≢◌, ℕ, ◌<◌, Bool, true, false, ◌&&◌, ◌==◌, ◌⊎◌, List, [], ◌∷◌, ◌++◌, length, codes, bytes_eq, Option, Some, None, IsSome, IfSome, Ok, IsUtf8, All}
use Rattle.std.specs.List.{list_all}
use Rattle.git_syntax.specs.Location.{Scheme, Location}
use Rattle.git_syntax.specs.Location.Scheme.{file, git, ssh, http, https, ext, helper, helper_url}
use Rattle.git_syntax.specs.Bytes.{slash, colon, at_sign, left_bracket, backslash, right_bracket, tilde, FreeOf, begins_by, begins_with, Holds, IsLowercase, LacksWhiteSpace, is_scheme_text, is_helper_name, is_path_start}
use Rattle.git_syntax.specs.Escapes.{is_sound, DecodesTo, has_percent}
use Rattle.git_syntax.specs.Addresses.{IsIpv6Text, Literal}
use Rattle.git_syntax.specs.Hosts.{normal_host, is_http_host_byte}
use Rattle.git_syntax.specs.Schemes.{is_ftp, is_known_scheme}
use Rattle.git_syntax.specs.Authority.{FitsText}
use Rattle.git_syntax.specs.Grammar.{begins_at_home, LocalForm}
use Rattle.git_location.specs.Text.{text}

-- facts about every value of the code: its texts are UTF-8, its bytes are below 256 and its port is below
-- 65,536
pub record IsValue (v : Location) : Type 0 where
  pub user : IfSome v.user IsUtf8
  pub password : IfSome v.password IsUtf8
  pub host : IfSome v.host IsUtf8
  pub port : IfSome v.port (λ p. p < 65536)
  pub path : All (λ b. b < 256) v.path
  pub spelling : IfSome v.spelling (λ s. All (λ b. b < 256) s)

-- there is such a field, and it has the property
abbrev pub HasPart : Option (List ℕ) → (List ℕ → Type 0) → Type 0
HasPart part test = (text : List ℕ) × (part ≡ Some text) × test text

-- ---- the conditions that the URL forms have in common

-- the spelling of the path is retained, and decodes to it
abbrev pub HasMatch : Location → Type 0
HasMatch v = HasPart v.spelling (λ spelling. DecodesTo spelling v.path)

-- the first byte of a text, if it has one
abbrev pub first_byte : List ℕ → Option ℕ
first_byte [] = None
first_byte (b ∷ bs) = Some b

-- a spelling that is written and read again unchanged
pub record IsFairSpelling (spelling path : List ℕ) : Type 0 where
  pub text : IsUtf8 spelling
  pub sound : is_sound spelling ≡ true
  pub escaped : has_percent spelling ≡ true
  pub no_white_space : LacksWhiteSpace spelling
  pub front : first_byte spelling ≡ first_byte path

-- the text is not empty and lacks `:`, `[` and `]`
pub record IsOpenName (host : List ℕ) : Type 0 where
  pub nonempty : 0 < length host
  pub no_colon : FreeOf colon host
  pub no_left_bracket : FreeOf left_bracket host
  pub no_right_bracket : FreeOf right_bracket host

-- the location has neither user nor password nor port, so at most a host precedes its path
abbrev pub HasAtMostHost : Location → Type 0
HasAtMostHost v = (v.user ≡ None) × (v.password ≡ None) × (v.port ≡ None)

-- it has the flag and a path only
abbrev pub IsFlaggedPath : Location → Type 0
IsFlaggedPath v = (v.flag ≡ true) × HasAtMostHost v × (v.host ≡ None)

-- the location has a text, and it is short enough
abbrev pub HasFittingText : Location → Type 0
HasFittingText v = (t : List ℕ) × (text v ≡ Ok t) × FitsText t

-- a password has a user and isn't empty, and an empty user has a password
abbrev pub HasCredentials : Location → Type 0
HasCredentials v = IfSome v.password (λ p. (0 < length p) × IsSome v.user)
    × (v.user ≡ Some [] → IsSome v.password)

-- a location with a user or a port has a host
abbrev pub IsHosted : Location → Type 0
IsHosted v = (IsSome v.user → IsSome v.host) × (IsSome v.port → IsSome v.host)

-- a spelling that decodes to the path is fair
abbrev pub HasFairSpelling : Location → Type 0
HasFairSpelling v = (s : List ℕ) → v.spelling ≡ Some s → DecodesTo s v.path
    → IsFairSpelling s v.path

-- the path is text, and a spelling that decodes to it is fair
pub record HasUrlPath (v : Location) : Type 0 where
  pub path_text : IsUtf8 v.path
  pub spelling : HasFairSpelling v

-- conditions on the URLs of HTTP, of Git's own transports and of helpers
pub record IsSettledUrl (v : Location) : Type 0 where
  pub unflagged : v.flag ≡ false
  pub credentials : HasCredentials v
  pub hosted : IsHosted v
  pub path : HasUrlPath v
  pub fits : HasFittingText v

-- ---- HTTP

-- the location has a scheme of HTTP
abbrev pub IsWeb : Location → Type 0
IsWeb v = (v.scheme ≡ http) ⊎ (v.scheme ≡ https)

-- a host of HTTP outside brackets that is read unchanged
pub record IsWebName (host : List ℕ) : Type 0 where
  pub nonempty : 0 < length host
  pub bytes : list_all is_http_host_byte host ≡ true
  pub sound : is_sound host ≡ true
  pub normal : normal_host host ≡ host

-- a settled host of HTTP: a literal in brackets or a name, followed by a colon only if there is no port
pub data IsWebHost (port : Option ℕ) (host : List ℕ) : Type 0 where
  literal : (n : List ℕ) → Literal n n → host ≡ left_bracket ∷ (n ++ right_bracket ∷ [])
      → IsWebHost port host
  literal_colon : (n : List ℕ) → Literal n n → port ≡ None
      → host ≡ left_bracket ∷ (n ++ right_bracket ∷ (colon ∷ [])) → IsWebHost port host
  named : IsWebName host → IsWebHost port host
  named_colon : (n : List ℕ) → IsWebName n → has_percent n ≡ false → port ≡ None
      → host ≡ n ++ colon ∷ [] → IsWebHost port host

-- there is a host, and it is settled for HTTP
abbrev pub HasWebHost : Location → Type 0
HasWebHost v = HasPart v.host (IsWebHost v.port)

-- a settled location of HTTP
pub record IsSettledWeb (v : Location) : Type 0 where
  pub common : IsSettledUrl v
  pub host : HasWebHost v
  pub port : v.port ≢ Some 0
  pub path : begins_by (is_path_start true) v.path ≡ true

-- ---- Secure Shell, Git's own protocol and helper URLs

-- a settled name of a host
pub record IsNormalName (host : List ℕ) : Type 0 where
  pub unbracketed : IsOpenName host
  pub normal : normal_host host ≡ host

-- a lowercase IPv6 text
pub record IsNormalAddress (host : List ℕ) : Type 0 where
  pub address : IsIpv6Text host
  pub lower : IsLowercase host

-- a settled host without brackets, as Secure Shell has it
abbrev pub IsBareHost : List ℕ → Type 0
IsBareHost host = IsNormalName host ⊎ IsNormalAddress host

-- an IPv6 text in lower case, in brackets
abbrev pub IsBracketedAddress : List ℕ → Type 0
IsBracketedAddress host = (address : List ℕ) × IsNormalAddress address
    × (host ≡ left_bracket ∷ (address ++ right_bracket ∷ []))

-- a settled host whose addresses are in brackets
abbrev pub IsBracketedHost : List ℕ → Type 0
IsBracketedHost host = IsNormalName host ⊎ IsBracketedAddress host

-- the path has neither `%` nor white space
abbrev pub IsRaw : List ℕ → Type 0
IsRaw path = (has_percent path ≡ false) × LacksWhiteSpace path

-- the path, which is UTF-8, is raw if no spelling matches it
abbrev pub IsRawPath : Location → Type 0
IsRawPath v = ¬ HasMatch v → IsRaw v.path

-- a rooted path that isn't below a home folder
abbrev pub IsHomeless : List ℕ → Type 0
IsHomeless path = (begins_with slash path ≡ true) × (begins_at_home path ≡ false)

-- a rooted path, or one below a home folder without a spelling that matches it
abbrev pub IsTransportPath : Location → Type 0
IsTransportPath v = IsHomeless v.path ⊎ ((begins_with tilde v.path ≡ true) × (¬ HasMatch v))

-- there is a host, and it is settled for Secure Shell
abbrev pub HasBareHost : Location → Type 0
HasBareHost v = HasPart v.host IsBareHost

-- there is a host, and it is settled with its addresses in brackets
abbrev pub HasBracketedHost : Location → Type 0
HasBracketedHost v = HasPart v.host IsBracketedHost

-- the common conditions on settled URLs, and a path that is raw if no spelling matches it
pub record IsSettledRaw (v : Location) : Type 0 where
  pub common : IsSettledUrl v
  pub raw : IsRawPath v

-- a settled URL of Secure Shell
pub record IsSettledSecure (v : Location) : Type 0 where
  pub url : IsSettledRaw v
  pub host : HasBareHost v
  pub path : IsTransportPath v

-- a settled URL of Git's own protocol
pub record IsSettledGit (v : Location) : Type 0 where
  pub url : IsSettledRaw v
  pub host : HasBracketedHost v
  pub path : IsTransportPath v

-- the path is empty, or rooted
abbrev pub IsRootedOrEmpty : List ℕ → Type 0
IsRootedOrEmpty path = (path ≡ []) ⊎ (begins_with slash path ≡ true)

-- a settled URL of another scheme
pub record IsSettledHelperUrl (name : List ℕ) (v : Location) : Type 0 where
  pub url : IsSettledRaw v
  pub scheme_text : is_scheme_text name ≡ true
  pub unknown : is_known_scheme name ≡ false
  pub host : IfSome v.host IsBracketedHost
  pub hosted : is_ftp name ≡ true → IsSome v.host
  pub path : IsRootedOrEmpty v.path

-- ---- the local file system

-- a host of a file URL that is read unchanged
pub record IsFileHost (host : List ℕ) : Type 0 where
  pub nonempty : 0 < length host
  pub no_slash : FreeOf slash host
  pub unbracketed : (begins_with left_bracket host ≡ true)
      ⊎ (FreeOf colon host ⊎ (has_percent host ≡ false))

-- a settled file URL
pub record IsSettledFile (v : Location) : Type 0 where
  pub unflagged : v.flag ≡ false
  pub alone : HasAtMostHost v
  pub no_match : ¬ HasMatch v
  pub host : IfSome v.host IsFileHost
  pub path_text : IsUtf8 v.path
  pub rooted : begins_with slash v.path ≡ true

-- a settled local path
pub record IsSettledLocal (v : Location) : Type 0 where
  pub bare : IsFlaggedPath v
  pub form : LocalForm v.path

-- ---- the scp form

-- a settled name of a host in the scp form; a host is UTF-8 in every value (`IsValue`), so the test for white
-- space is meaningful
pub record IsScpName (host : List ℕ) : Type 0 where
  pub normal : IsNormalName host
  pub no_at : FreeOf at_sign host
  pub no_slash : FreeOf slash host
  pub no_backslash : FreeOf backslash host
  pub no_white_space : LacksWhiteSpace host

-- a settled user in the scp form; it may be empty
pub record IsScpUser (user : List ℕ) : Type 0 where
  pub no_colon : FreeOf colon user
  pub no_slash : FreeOf slash user
  pub no_bracket : begins_with left_bracket user ≡ false

-- the text begins with `//`
abbrev pub begins_with_slashes : List ℕ → Bool
begins_with_slashes [] = false
begins_with_slashes (a ∷ []) = false
begins_with_slashes (a ∷ b ∷ rest) = a == slash && b == slash

-- without a user, the text of host and path would be that of a remote helper
abbrev pub LooksLikeHelper : Location → List ℕ → Type 0
LooksLikeHelper v host = (v.user ≡ None) × (is_helper_name host ≡ true)
    × (begins_with colon v.path ≡ true)

-- a settled path in the scp form
pub record IsScpPath (path : List ℕ) : Type 0 where
  pub path_text : IsUtf8 path
  pub nonempty : 0 < length path
  pub not_home : begins_at_home path ≡ false
  pub not_slashes : begins_with_slashes path ≡ false
  pub no_mark : ¬ Holds (codes "://") path

-- a settled host in the scp form
abbrev pub IsScpHost : List ℕ → Type 0
IsScpHost host = IsScpName host ⊎ IsNormalAddress host

-- there is a host, and it is settled in the scp form
abbrev pub HasScpHost : Location → Type 0
HasScpHost v = (h : List ℕ) × (v.host ≡ Some h) × IsScpHost h × ¬ LooksLikeHelper v h

-- a settled location in the scp form
pub record IsSettledScp (v : Location) : Type 0 where
  pub flagged : v.flag ≡ true
  pub no_password : v.password ≡ None
  pub no_port : v.port ≡ None
  pub path : IsScpPath v.path
  pub user : IfSome v.user IsScpUser
  pub host : HasScpHost v

-- ---- remote helpers

-- a settled remote helper
pub record IsSettledHelper (name : List ℕ) (v : Location) : Type 0 where
  pub bare : IsFlaggedPath v
  pub named : is_helper_name name ≡ true

-- ---- all kinds

-- the location is settled, by its scheme
abbrev pub IsSettledBy : Scheme → Location → Type 0
IsSettledBy file v = IsSettledLocal v ⊎ IsSettledFile v
IsSettledBy ssh v = IsSettledScp v ⊎ IsSettledSecure v
IsSettledBy git v = IsSettledGit v
IsSettledBy http v = IsSettledWeb v
IsSettledBy https v = IsSettledWeb v
IsSettledBy ext v = IsSettledHelper (codes "ext") v
IsSettledBy (helper name) v = IsSettledHelper name v × (bytes_eq name (codes "ext") ≡ false)
IsSettledBy (helper_url name) v = IsSettledHelperUrl name v

-- the location meets the conditions of its scheme, so its text is read as a location with the same public
-- fields and the same text (`law_separation`)
abbrev pub IsSettled : Location → Type 0
IsSettled v = IsSettledBy v.scheme v

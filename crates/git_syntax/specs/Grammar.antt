-- The grammar: which location a list of bytes spells, one relation for each form, and their sum.
use Rattle.std.specs.Prelude.{◌≡◌, ℕ, ◌<◌, true, false, ◌&&◌, ◌==◌, ◌⊎◌, List, [], ◌∷◌, ◌++◌, length, codes, bytes_eq, Option, Some, None, IsSome, IsUtf8, if◌then◌else◌}
use Rattle.percent_encoding.specs.Percent.{percent_decode}
use Rattle.git_syntax.specs.Location.{Scheme, Location, path_alone}
use Rattle.git_syntax.specs.Location.Scheme.{file, git, ssh, http, https, ext, helper, helper_url}
use Rattle.git_syntax.specs.Bytes.{slash, colon, at_sign, left_bracket, backslash, right_bracket, tilde, Lacks, FreeOf, begins_with, Holds, lowercase, LacksWhiteSpace, is_scheme_text, is_helper_name, is_path_start, StartsPath}
use Rattle.git_syntax.specs.Escapes.{is_sound, has_percent, escaped_percents}
use Rattle.git_syntax.specs.Addresses.{IsIpv6Text}
use Rattle.git_syntax.specs.Hosts.{SpellsHostPort}
use Rattle.git_syntax.specs.Hosts.HostSyntax.{git_hosts}
use Rattle.git_syntax.specs.Schemes.{is_web_scheme, scheme_of, host_syntax_of, requires_host, requires_path}
use Rattle.git_syntax.specs.Authority.{unless_empty, Authority, Fits}
use Rattle.std.specs.Prelude.{ℕ, Bool, false, ◌&&◌, ◌==◌, List, [], ◌∷◌}
use Rattle.git_syntax.specs.Bytes.{slash, tilde}

-- ---- remote helpers (gitremote-helpers)

-- the text is a helper's name, `::` and an address
pub record HelperCut (b name address : List ℕ) : Type 0 where
  pub named : is_helper_name name ≡ true
  pub joined : b ≡ name ++ colon ∷ (colon ∷ address)

-- the text has the form of a remote helper
abbrev pub HasHelperForm : List ℕ → Type 0
HasHelperForm b = (name : List ℕ) × (address : List ℕ) × HelperCut b name address

-- the scheme of a helper, by its name
abbrev pub helper_scheme : List ℕ → Scheme
helper_scheme name = if bytes_eq name (codes "ext") then ext else helper name

-- a remote helper: the address is used unchanged
pub record SpellsHelper (b : List ℕ) (v : Location) : Type 0 where
  pub name : List ℕ
  pub address : List ℕ
  pub parts : HelperCut b name address
  pub value : v ≡ path_alone (helper_scheme name) true address

-- ---- URLs (RFC 3986)

-- the fields of a URL, before the rules of its scheme are applied: user, password and host decoded, the path
-- as it is spelled
pub record UrlSyntax : Type 0 where
  pub scheme : List ℕ
  pub user : Option (List ℕ)
  pub password : Option (List ℕ)
  pub host : Option (List ℕ)
  pub port : Option ℕ
  pub path : List ℕ

-- the text is a URL with these fields: a scheme, `://`, an authority and a path
pub record HasUrlSyntax (b : List ℕ) (parts : UrlSyntax) : Type 0 where
  pub authority : List ℕ
  pub joined : b ≡ parts.scheme ++ (codes "://" ++ (authority ++ parts.path))
  pub scheme_text : is_scheme_text parts.scheme ≡ true
  pub not_file : bytes_eq parts.scheme (codes "file") ≡ false
  pub no_backslash : FreeOf backslash authority
  pub before_path : Lacks (is_path_start (is_web_scheme parts.scheme)) authority
  pub path_starts : StartsPath (is_web_scheme parts.scheme) parts.path
  pub text : IsUtf8 b
  pub sound : is_sound b ≡ true
  pub no_white_space : LacksWhiteSpace b
  pub fits : Fits parts.scheme (authority ++ parts.path)
  pub named : Authority
      (host_syntax_of parts.scheme) authority parts.user parts.password parts.host parts.port
  pub hosted : requires_host parts.scheme ≡ true → IsSome parts.host
  pub path_text : IsUtf8 (percent_decode parts.path)

-- the text is another in brackets
abbrev pub IsBracketed : List ℕ → Type 0
IsBracketed text = (inner : List ℕ) × (text ≡ left_bracket ∷ (inner ++ right_bracket ∷ []))

-- the text is another in brackets, followed by a colon
abbrev pub IsBracketedColon : List ℕ → Type 0
IsBracketedColon text = (inner : List ℕ)
    × (text ≡ left_bracket ∷ (inner ++ right_bracket ∷ (colon ∷ [])))

-- the text lacks `:`, except for one at its end, and doesn't begin with a bracket
abbrev pub EndsInColon : List ℕ → Type 0
EndsInColon text = (front : List ℕ) × FreeOf colon front × (begins_with left_bracket front ≡ false)
    × (text ≡ front ++ colon ∷ [])

-- the host as Secure Shell takes it: without brackets around it, and without a colon after it
pub data IsSshHost (host ssh_host : List ℕ) : Type 0 where
  brackets : host ≡ left_bracket ∷ (ssh_host ++ right_bracket ∷ []) → IsSshHost host ssh_host
  brackets_colon : host ≡ left_bracket ∷ (ssh_host ++ right_bracket ∷ (colon ∷ []))
      → IsSshHost host ssh_host
  last_colon : FreeOf colon ssh_host → begins_with left_bracket ssh_host ≡ false
      → host ≡ ssh_host ++ colon ∷ [] → IsSshHost host ssh_host
  same : ¬ IsBracketed host → ¬ IsBracketedColon host → ¬ EndsInColon host → ssh_host ≡ host
      → IsSshHost host ssh_host

-- the host of a location, by its scheme, from the host of its URL
abbrev pub HostFor : Scheme → Option (List ℕ) → Option (List ℕ) → Type 0
HostFor ssh None host = host ≡ None
HostFor ssh (Some named) host = (ssh_host : List ℕ) × IsSshHost named ssh_host × (host ≡ Some ssh_host)
HostFor _ named host = host ≡ named

-- the path without a `/` before a `~` at its front
abbrev pub from_home : List ℕ → List ℕ
from_home [] = []
from_home (a ∷ []) = a ∷ []
from_home (a ∷ b ∷ rest) = if a == slash && b == tilde then b ∷ rest else a ∷ b ∷ rest

-- the path, or `/` if it is empty
abbrev pub or_root : List ℕ → List ℕ
or_root [] = slash ∷ []
or_root (b ∷ bs) = b ∷ bs

-- the path of a location, by its scheme, from the decoded path of its URL
abbrev pub path_for : Scheme → List ℕ → List ℕ
path_for ssh path = from_home path
path_for git path = from_home path
path_for http path = or_root path
path_for https path = or_root path
path_for _ path = path

-- the spelling of a path, which is retained if it has an escape
abbrev pub retained_spelling : List ℕ → Option (List ℕ)
retained_spelling path = if has_percent path then Some path else None

-- the location that a URL with these fields denotes, by its scheme
pub record DenotesByScheme (scheme : Scheme) (parts : UrlSyntax) (v : Location) : Type 0 where
  pub host : Option (List ℕ)
  pub pathed : requires_path scheme ≡ true → 0 < length parts.path
  pub hosted : HostFor scheme parts.host host
  pub value : v ≡ record {
    scheme = scheme;
    user = parts.user;
    password = parts.password;
    host = host;
    flag = false;
    port = parts.port;
    path = path_for scheme (percent_decode parts.path);
    spelling = retained_spelling parts.path;
  }

-- the location that a URL with these fields denotes: `ext` keeps the whole text as the path
abbrev pub DenotesAs : Scheme → List ℕ → UrlSyntax → Location → Type 0
DenotesAs ext b parts v = v ≡ path_alone ext true b
DenotesAs file b parts v = DenotesByScheme file parts v
DenotesAs git b parts v = DenotesByScheme git parts v
DenotesAs ssh b parts v = DenotesByScheme ssh parts v
DenotesAs http b parts v = DenotesByScheme http parts v
DenotesAs https b parts v = DenotesByScheme https parts v
DenotesAs (helper name) b parts v = DenotesByScheme (helper name) parts v
DenotesAs (helper_url name) b parts v = DenotesByScheme (helper_url name) parts v

-- a URL of any scheme except `file`
pub record SpellsUrl (b : List ℕ) (v : Location) : Type 0 where
  pub parts : UrlSyntax
  pub spelled : HasUrlSyntax b parts
  pub means : DenotesAs (scheme_of parts.scheme) b parts v

-- a file URL: host and path are used unchanged
pub record SpellsFile (b : List ℕ) (v : Location) : Type 0 where
  pub host : List ℕ
  pub path : List ℕ
  pub joined : b ≡ codes "file://" ++ (host ++ path)
  pub text : IsUtf8 b
  pub no_slash : FreeOf slash host
  pub rooted : begins_with slash path ≡ true
  pub value : v ≡ record (path_alone file false path) { host = unless_empty host }

-- ---- the scp form (git-clone, "GIT URLS")

-- a front before a colon that may be a user and a host: it lacks `:`, or its colons are in brackets
pub data ScpFront (b front : List ℕ) : Type 0 where
  plain : FreeOf colon front → (begins_with left_bracket front ≡ false) ⊎ FreeOf right_bracket b
      → ScpFront b front
  bracketed : (inside after : List ℕ) → FreeOf right_bracket inside → FreeOf colon after
      → front ≡ left_bracket ∷ (inside ++ right_bracket ∷ after) → ScpFront b front

-- the text has neither the form of a remote helper nor that of a URL
pub record IsNeither (b : List ℕ) : Type 0 where
  pub no_helper : ¬ HasHelperForm b
  pub no_mark : ¬ Holds (codes "://") b

-- the text has the scp form, with this front and this path
pub record ScpForm (b front path : List ℕ) : Type 0 where
  pub joined : b ≡ front ++ colon ∷ path
  pub neither : IsNeither b
  pub no_slash : FreeOf slash front
  pub form : ScpFront b front

-- the text is `user@[address]:path`, with these pieces
pub record AddressedCut (b user address path : List ℕ) : Type 0 where
  pub joined : b ≡ user ++ at_sign ∷ (left_bracket ∷ (address ++ right_bracket ∷ (colon ∷ path)))
  pub no_slash : FreeOf slash user
  pub no_colon : FreeOf colon user
  pub addressed : IsIpv6Text address

-- the text has that form, and is neither a remote helper nor a URL
pub record AddressedForm (b user address path : List ℕ) : Type 0 where
  pub cut : AddressedCut b user address path
  pub neither : IsNeither b

-- the text has the form `user@[address]:path`
abbrev pub IsAddressed : List ℕ → Type 0
IsAddressed b = (user : List ℕ) × (address : List ℕ) × (path : List ℕ)
    × AddressedForm b user address path

-- the text has the scp form
abbrev pub HasScpForm : List ℕ → Type 0
HasScpForm b = ((front : List ℕ) × (path : List ℕ) × ScpForm b front path) ⊎ IsAddressed b

-- the front is a host, or a user, `@` and a host
pub data ScpUser (front : List ℕ) (user : Option (List ℕ)) (host : List ℕ) : Type 0 where
  host_alone : front ≡ host → user ≡ None → ScpUser front user host
  with_user : (u : List ℕ) → front ≡ u ++ at_sign ∷ host → user ≡ Some u → ScpUser front user host

-- the host without brackets around it
pub data Unbrackets (host inner : List ℕ) : Type 0 where
  brackets : host ≡ left_bracket ∷ (inner ++ right_bracket ∷ []) → Unbrackets host inner
  same : ¬ IsBracketed host → inner ≡ host → Unbrackets host inner

-- a host in the scp form denotes another: a `%` in it is a literal character. The host is cut out of a text
-- that is UTF-8, so the test for white space is meaningful
pub record ScpHost (host denoted : List ℕ) : Type 0 where
  pub named : List ℕ
  pub no_at : FreeOf at_sign host
  pub no_backslash : FreeOf backslash host
  pub no_white_space : LacksWhiteSpace host
  pub names : SpellsHostPort git_hosts (escaped_percents host) (Some named) None
  pub unbracketed : Unbrackets named denoted

-- a location of the scp form, which only Secure Shell reaches
abbrev pub scp_location : Option (List ℕ) → List ℕ → List ℕ → Location
scp_location user host path = record
    (path_alone ssh true (from_home path)) { user = user; host = Some host }

-- the scp form, except for the form `user@[address]:path`
pub record SpellsScpBefore (b : List ℕ) (v : Location) : Type 0 where
  pub front : List ℕ
  pub path : List ℕ
  pub user : Option (List ℕ)
  pub host : List ℕ
  pub denoted : List ℕ
  pub form : ScpForm b front path
  pub text : IsUtf8 b
  pub pathed : 0 < length path
  pub split : ScpUser front user host
  pub hosted : ScpHost host denoted
  pub value : v ≡ scp_location user denoted path

-- the form `user@[address]:path`
pub record SpellsScpAddressed (b : List ℕ) (v : Location) : Type 0 where
  pub user : List ℕ
  pub address : List ℕ
  pub path : List ℕ
  pub form : AddressedForm b user address path
  pub text : IsUtf8 b
  pub pathed : 0 < length path
  pub value : v ≡ scp_location (Some user) (lowercase address) path

-- the scp form
abbrev pub SpellsScp : List ℕ → Location → Type 0
SpellsScp b v = SpellsScpBefore b v ⊎ SpellsScpAddressed b v

-- ---- local paths

-- the text has the form of a local path
pub record LocalForm (b : List ℕ) : Type 0 where
  pub nonempty : 0 < length b
  pub neither : IsNeither b
  pub no_scp : ¬ HasScpForm b

-- a local path: any other text, unchanged
pub record SpellsLocal (b : List ℕ) (v : Location) : Type 0 where
  pub nonempty : 0 < length b
  pub neither : IsNeither b
  pub no_scp : ¬ HasScpForm b
  pub value : v ≡ path_alone file true b

-- ---- all forms

-- the bytes spell the location
pub data Spells (b : List ℕ) (v : Location) : Type 0 where
  url : SpellsUrl b v → Spells b v
  file_url : SpellsFile b v → Spells b v
  remote_helper : SpellsHelper b v → Spells b v
  scp_form : SpellsScp b v → Spells b v
  local_path : SpellsLocal b v → Spells b v

-- the text begins with `/~`
abbrev pub begins_at_home : List ℕ → Bool
begins_at_home [] = false
begins_at_home (a ∷ []) = false
begins_at_home (a ∷ b ∷ rest) = a == slash && b == tilde

-- Hosts and ports, which follow the user information of an authority, in three syntaxes.
use Rattle.std.specs.Prelude.{◌≡◌, ℕ, ◌<◌, ◌≤◌, Bool, true, false, ◌||◌, ◌⊎◌, List, [], ◌∷◌, ◌++◌, length, codes, decimal, Option, Some, None, IsUtf8, if◌then◌else◌}
use Rattle.std.specs.List.{list_all}
use Rattle.std.specs.Char.{is_ascii_alphanumeric, is_ascii_digit}
use Rattle.std.specs.Int.{is_in_range}
use Rattle.std.specs.Str.Parse.{digits_value}
use Rattle.percent_encoding.specs.Percent.{percent_decode}
use Rattle.git_syntax.specs.Bytes.{dollar_sign, dot, colon, left_bracket, right_bracket, FreeOf, begins_with, lowercase, is_one_of, at_sign}
use Rattle.git_syntax.specs.Addresses.{IsIpv6Text, Literal}

-- the syntax of a host: that of HTTP, that of Git's own transports, or that of any other scheme
pub data HostSyntax : Type 0 where
  http_hosts : HostSyntax
  git_hosts : HostSyntax
  other_hosts : HostSyntax

-- a byte that a domain name can have: a letter, a digit, `-`, `.`, `_` or `*`
abbrev pub is_dns_byte : ℕ → Bool
is_dns_byte b = is_ascii_alphanumeric b || is_one_of (codes "-._*") b

-- a mark of the host of an HTTP location: one of `-._~!$&'()*+,;=%`, where `$` to `.` are consecutive
abbrev pub is_http_host_mark : ℕ → Bool
is_http_host_mark b = is_in_range dollar_sign dot b || is_one_of (codes "!;=_~") b

-- a byte that the host of an HTTP location may have: a letter, a digit or one of `-._~!$&'()*+,;=%`
abbrev pub is_http_host_byte : ℕ → Bool
is_http_host_byte b = is_ascii_alphanumeric b || is_http_host_mark b

-- the normal form of a host: in lower case if it looks like a domain name
abbrev pub normal_host : List ℕ → List ℕ
normal_host host = if list_all is_dns_byte host then lowercase host else host

-- a text outside brackets denotes a host
abbrev pub HostText : HostSyntax → List ℕ → List ℕ → Type 0
HostText http_hosts text host = (list_all is_http_host_byte text ≡ true) × (host ≡ normal_host text)
HostText git_hosts text host = IsUtf8 (percent_decode text) × (host ≡ normal_host (percent_decode text))
HostText other_hosts text host = IsUtf8 (percent_decode text) × (host ≡ normal_host (percent_decode text))

-- the text is an IPv6 literal: it has a normal form as one
abbrev pub IsLiteral : List ℕ → Type 0
IsLiteral text = (normal : List ℕ) × Literal text normal

-- a text in brackets denotes another, except in HTTP: a literal its decoded normal form, any other text its
-- decoding
pub data Bracketed (text : List ℕ) (inner : List ℕ) : Type 0 where
  literal : (normal : List ℕ) → Literal text normal → inner ≡ percent_decode normal → IsUtf8 inner
      → Bracketed text inner
  other : ¬ IsLiteral text → inner ≡ percent_decode text → IsUtf8 inner → Bracketed text inner

-- a text in brackets denotes another
abbrev pub Inner : HostSyntax → List ℕ → List ℕ → Type 0
Inner http_hosts text inner = Literal text inner
Inner git_hosts text inner = Bracketed text inner
Inner other_hosts text inner = Bracketed text inner

-- the port is allowed: only HTTP refuses zero
abbrev pub AllowsPort : HostSyntax → ℕ → Type 0
AllowsPort http_hosts port = 0 < port
AllowsPort git_hosts port = Unit {0}
AllowsPort other_hosts port = Unit {0}

-- decimal digits, at least one
abbrev pub IsDigits : List ℕ → Type 0
IsDigits text = (0 < length text) × (list_all is_ascii_digit text ≡ true)

-- digits spell a port
pub record Number (syntax : HostSyntax) (text : List ℕ) (port : ℕ) : Type 0 where
  pub digits : IsDigits text
  pub value : port ≡ digits_value 10 text
  pub within : port ≤ 65535
  pub allowed : AllowsPort syntax port

-- an IPv6 text without brackets, or one that a colon follows
abbrev pub IsAddressPiece : List ℕ → Type 0
IsAddressPiece piece = IsIpv6Text piece
    ⊎ ((address : List ℕ) × IsIpv6Text address × (piece ≡ address ++ colon ∷ []))

-- an IPv6 text without brackets, or one that a colon follows, in a syntax in which an address needs no brackets
abbrev pub ReadsAddress : HostSyntax → List ℕ → Type 0
ReadsAddress syntax piece = (syntax ≡ git_hosts) × IsAddressPiece piece

-- the text has two or more colons
abbrev pub HoldsTwoColons : List ℕ → Type 0
HoldsTwoColons piece = (x : List ℕ) × (y : List ℕ) × (z : List ℕ)
    × (piece ≡ x ++ colon ∷ (y ++ colon ∷ z))

-- the text begins with a colon, or has two; unless it begins with a bracket, none of them begins a port
abbrev pub IsManyColoned : List ℕ → Type 0
IsManyColoned piece = (begins_with colon piece ≡ true) ⊎ HoldsTwoColons piece

-- a host outside brackets: not empty, without `:`, and not beginning with a bracket
pub record IsPlainHost (text : List ℕ) : Type 0 where
  pub nonempty : 0 < length text
  pub no_colon : FreeOf colon text
  pub no_bracket : begins_with left_bracket text ≡ false

-- a host may end before the text: the text is empty or begins with a colon
abbrev pub EndsHost : List ℕ → Type 0
EndsHost rest = (rest ≡ []) ⊎ (begins_with colon rest ≡ true)

-- the text after the user information spells a host and a port
pub data SpellsHostPort (syntax : HostSyntax) (piece : List ℕ) (host : Option (List ℕ))
    (port : Option ℕ) : Type 0 where
  -- the empty text
  nothing : piece ≡ [] → host ≡ None → port ≡ None → SpellsHostPort syntax piece host port
  -- `[x]`
  bracketed : (x inner : List ℕ) → FreeOf right_bracket x → Inner syntax x inner
      → piece ≡ left_bracket ∷ (x ++ right_bracket ∷ [])
      → host ≡ Some (left_bracket ∷ (inner ++ right_bracket ∷ [])) → port ≡ None
      → SpellsHostPort syntax piece host port
  -- `[x]:`, whose colon stays with the host
  bracketed_colon : (x inner : List ℕ) → FreeOf right_bracket x → Inner syntax x inner
      → piece ≡ left_bracket ∷ (x ++ right_bracket ∷ (colon ∷ []))
      → host ≡ Some (left_bracket ∷ (inner ++ right_bracket ∷ (colon ∷ []))) → port ≡ None
      → SpellsHostPort syntax piece host port
  -- `[x]:port`
  bracketed_port : (x inner digits : List ℕ) (number : ℕ) → FreeOf right_bracket x
      → Inner syntax x inner → Number syntax digits number
      → piece ≡ left_bracket ∷ (x ++ right_bracket ∷ (colon ∷ digits))
      → host ≡ Some (left_bracket ∷ (inner ++ right_bracket ∷ [])) → port ≡ Some number
      → SpellsHostPort syntax piece host port
  -- an address without brackets, in the syntax of Git's own transports
  unbracketed : ReadsAddress syntax piece → host ≡ Some (lowercase piece) → port ≡ None
      → SpellsHostPort syntax piece host port
  -- `host`
  plain : (named : List ℕ) → IsPlainHost piece → HostText syntax piece named
      → host ≡ Some named → port ≡ None → SpellsHostPort syntax piece host port
  -- `host:`, whose colon stays with the host
  plain_colon : (text named : List ℕ) → IsPlainHost text → HostText syntax text named
      → piece ≡ text ++ colon ∷ [] → host ≡ Some (named ++ colon ∷ []) → port ≡ None
      → SpellsHostPort syntax piece host port
  -- `host:port`
  plain_port : (text named digits : List ℕ) (number : ℕ) → IsPlainHost text
      → HostText syntax text named → Number syntax digits number
      → piece ≡ text ++ colon ∷ digits → host ≡ Some named → port ≡ Some number
      → SpellsHostPort syntax piece host port
  -- colons that don't begin a port, except in HTTP: the whole text is the host
  colons : (named : List ℕ) → ¬ (syntax ≡ http_hosts) → ¬ ReadsAddress syntax piece
      → begins_with left_bracket piece ≡ false → IsManyColoned piece → HostText syntax piece named
      → host ≡ Some named → port ≡ None → SpellsHostPort syntax piece host port

-- the port after its colon, if there is one
abbrev pub port_part : Option ℕ → List ℕ
port_part None = []
port_part (Some port) = colon ∷ decimal port

-- the user and `@`, unescaped, if there is a user
abbrev pub raw_user : Option (List ℕ) → List ℕ
raw_user None = []
raw_user (Some user) = user ++ at_sign ∷ []

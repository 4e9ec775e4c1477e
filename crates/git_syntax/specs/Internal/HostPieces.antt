-- The slices that the reader of hosts returns: the hosts that they denote, and the contracts of the reader.
use Rattle.std.specs.Prelude.{◌≡◌, ◌<◌, ℕ, Bool, true, false, ◌||◌, ◌==◌, List, [], ◌∷◌, ◌++◌, length, Option, Some, None, codes, option_map, Result, MatchResult, if◌then◌else◌}
use Rattle.std.specs.List.{list_all}
use Rattle.std.specs.Char.{is_ascii_digit, is_ascii_lowercase, to_ascii_lowercase}
use Rattle.percent_encoding.specs.Percent.{percent_decode}
use Rattle.git_syntax.specs.declared.refusal.UrlFault.{UrlFault}
use Rattle.git_syntax.specs.declared.host.HostSyntax as rust
use Rattle.git_syntax.specs.declared.host.HostSyntax.TheVariants as read
use Rattle.git_syntax.specs.declared.host.HostPiece.{HostPiece}
use Rattle.git_syntax.specs.declared.host.HostPiece.TheVariants.{Simple, Address, Kept, Decoded, Literal, DecodedLiteral, Bracketed}
use Rattle.git_syntax.specs.declared.host.HostPort.{HostPort}
use Rattle.git_syntax.specs.Bytes.{colon, dot, hyphen, percent_sign, left_bracket, right_bracket, lowercase}
use Rattle.git_syntax.specs.Addresses.{IsZone}
use Rattle.git_syntax.specs.Hosts.{HostSyntax, Inner, normal_host, SpellsHostPort, Number}
use Rattle.git_syntax.specs.Hosts.HostSyntax.{http_hosts, git_hosts, other_hosts}
use Rattle.git_syntax.specs.Flaws.{IsNoPort, HostPortFlaw}

-- the syntax that a `HostSyntax` represents
abbrev pub host_syntax : rust.HostSyntax → HostSyntax
host_syntax read.Http = http_hosts
host_syntax read.Git = git_hosts
host_syntax read.Other = other_hosts

-- a lower-case letter, a digit, `-` or `.`
abbrev pub is_simple_byte : ℕ → Bool
is_simple_byte b = is_ascii_lowercase b || (is_ascii_digit b || (b == hyphen || b == dot))

-- a host that is the same in every syntax
pub record IsSimpleHost (text : List ℕ) : Type 0 where
  pub nonempty : 0 < length text
  pub bytes : list_all is_simple_byte text ≡ true

-- the text in brackets
abbrev pub in_brackets : List ℕ → List ℕ
in_brackets inner = left_bracket ∷ (inner ++ right_bracket ∷ [])

-- the text in lower case up to the first `%`
abbrev pub lowercase_address : List ℕ → List ℕ
lowercase_address [] = []
lowercase_address (b ∷ bs) = if b == percent_sign then b ∷ bs
    else to_ascii_lowercase b ∷ lowercase_address bs

-- the host that a piece denotes
abbrev pub denoted_host : HostPiece → List ℕ
denoted_host (Simple text) = text.now
denoted_host (Address text) = lowercase text.now
denoted_host (Kept text) = normal_host text.now
denoted_host (Decoded text) = normal_host (percent_decode text.now)
denoted_host (Literal text) = in_brackets (lowercase_address text.now)
denoted_host (DecodedLiteral text) = in_brackets (lowercase_address (percent_decode text.now))
denoted_host (Bracketed text) = in_brackets (percent_decode text.now)

-- the slice in a piece
abbrev pub slice_text : HostPiece → List ℕ
slice_text (Simple text) = text.now
slice_text (Address text) = text.now
slice_text (Kept text) = text.now
slice_text (Decoded text) = text.now
slice_text (Literal text) = text.now
slice_text (DecodedLiteral text) = text.now
slice_text (Bracketed text) = text.now

-- the slice in a piece, decoded if necessary
abbrev pub unescaped_host : HostPiece → List ℕ
unescaped_host (Simple text) = text.now
unescaped_host (Address text) = text.now
unescaped_host (Kept text) = text.now
unescaped_host (Decoded text) = percent_decode text.now
unescaped_host (Literal text) = text.now
unescaped_host (DecodedLiteral text) = percent_decode text.now
unescaped_host (Bracketed text) = percent_decode text.now

-- the letters of a host in the case in which they are written
abbrev pub normal_case : HostPiece → List ℕ → List ℕ
normal_case (Simple text) host = host
normal_case (Address text) host = lowercase host
normal_case (Kept text) host = normal_host host
normal_case (Decoded text) host = normal_host host
normal_case (Literal text) host = lowercase_address host
normal_case (DecodedLiteral text) host = lowercase_address host
normal_case (Bracketed text) host = host

-- the host is in brackets
abbrev pub is_bracketed : HostPiece → Bool
is_bracketed (Simple text) = false
is_bracketed (Address text) = false
is_bracketed (Kept text) = false
is_bracketed (Decoded text) = false
is_bracketed (Literal text) = true
is_bracketed (DecodedLiteral text) = true
is_bracketed (Bracketed text) = true

-- the text of a host: the host that its piece denotes, and the colon after it if the host keeps one
abbrev pub named_text : HostPort → List ℕ
named_text named = if named.keeps_colon then denoted_host named.piece ++ colon ∷ []
    else denoted_host named.piece

-- the host that a `HostPort` represents
abbrev pub host_of : Option HostPort → Option (List ℕ)
host_of named = option_map named_text named

-- the port, if there is a host with a port
abbrev pub port_of : Option HostPort → Option ℕ
port_of None = None
port_of (Some named) = named.port

-- `25` and a zone
abbrev pub IsEscapedZone : List ℕ → Type 0
IsEscapedZone text = (zone : List ℕ) × IsZone zone × (text ≡ codes "25" ++ zone)

-- the text of a literal's host, which is decoded except in HTTP
abbrev pub shown_literal : HostSyntax → List ℕ → List ℕ
shown_literal http_hosts text = lowercase_address text
shown_literal git_hosts text = lowercase_address (percent_decode text)
shown_literal other_hosts text = lowercase_address (percent_decode text)

-- the host is the one that a text in brackets denotes, in brackets
abbrev pub IsInner : HostSyntax → List ℕ → List ℕ → Type 0
IsInner syntax text host = (inner : List ℕ) × Inner syntax text inner × (host ≡ in_brackets inner)

-- the text after a host: nothing, a colon that stays with it, or a colon and a port
pub data Follows (syntax : HostSyntax) (base rest : List ℕ) (host : Option (List ℕ))
    (port : Option ℕ) : Type 0 where
  nothing : rest ≡ [] → host ≡ Some base → port ≡ None → Follows syntax base rest host port
  lone_colon : rest ≡ colon ∷ [] → host ≡ Some (base ++ colon ∷ []) → port ≡ None
      → Follows syntax base rest host port
  number : (digits : List ℕ) (n : ℕ) → Number syntax digits n → rest ≡ colon ∷ digits
      → host ≡ Some base → port ≡ Some n → Follows syntax base rest host port

-- a colon and a text that is not a port
abbrev pub IsBadPort : HostSyntax → List ℕ → Type 0
IsBadPort syntax rest = (digits : List ℕ) × IsNoPort syntax digits × (rest ≡ colon ∷ digits)

-- the result of reading a text that isn't empty: the host and the port that it spells, or a flaw of it
abbrev pub ReadsHostPort : HostSyntax → List ℕ → Result HostPort UrlFault → Type 0
ReadsHostPort syntax piece result = MatchResult result
    (λ named. SpellsHostPort syntax piece (Some (named_text named)) named.port)
    (λ fault. HostPortFlaw syntax piece fault)

-- The law on patterns: a pattern without `*` only selects texts whose scheme, host and port are its own.
use Rattle.std.specs.Prelude.{◌≡◌, ℕ, false, ◌⊎◌, List, [], ◌∷◌, ◌++◌, decimal, Option, Some, None, option_map, Ok}
use Rattle.git_syntax.specs.Location.{Location}
use Rattle.git_syntax.specs.Bytes.{dot, FreeOf}
use Rattle.git_syntax.specs.Schemes.{default_port_of, scheme_of}
use Rattle.git_syntax.specs.Hosts.{port_part}
use Rattle.git_location.specs.Text.{text}
use Rattle.git_location.specs.Settled.{IsValue, IsWeb}
use Rattle.git_class.specs.GitClass.{AgreesWithGit}
use Rattle.git_reads.specs.Credentials.{CredentialReading, CredentialReads}
use Rattle.git_laws.specs.GitWeb.{UriReading, UriReads}
use Rattle.git_rules.specs.Normal.{asterisk, NormalPlace, IsNormalOf}
use Rattle.git_rules.specs.Patterns.{Matches}

-- the host is the pattern's own, except that the pattern's may end in a `.`, which Git ignores: the name is the
-- same, written from the root of all names (RFC 1034, section 3.1)
abbrev pub IsOwnHost : List ℕ → List ℕ → Type 0
IsOwnHost own host = (own ≡ host) ⊎ (own ≡ host ++ dot ∷ [])

-- the port of the connection: the port of the URL, or else the scheme's default port
abbrev pub reached_port : List ℕ → Option ℕ → Option ℕ
reached_port scheme (Some port) = Some port
reached_port scheme None = default_port_of (scheme_of scheme)

-- the scheme, the host and the port are the pattern's own
pub record IsOwnOf (pattern : NormalPlace) (scheme host : List ℕ) (port : Option ℕ) : Type 0 where
  pub own_scheme : scheme ≡ pattern.scheme
  pub own_host : IsOwnHost pattern.host host
  pub own_port : reached_port scheme port ≡ reached_port pattern.scheme pattern.port

-- helpers are asked for the pattern's own place; the port is a part of the host there
pub record AsksForOwn (pattern : NormalPlace) (r : CredentialReading) : Type 0 where
  pub host : List ℕ
  pub port : Option ℕ
  pub joined : r.host ≡ host ++ port_part port
  pub own : IsOwnOf pattern r.protocol host port

-- the connection goes to the pattern's own place
pub record ConnectsToOwn (pattern : NormalPlace) (r : UriReading) : Type 0 where
  pub port : Option ℕ
  pub digits : r.port ≡ option_map decimal port
  pub own : IsOwnOf pattern r.scheme r.host port

-- Git's credential code and a URI reader read the pattern's own scheme, host and port in the text
pub record ReachesOwn (t : List ℕ) (pattern : NormalPlace) : Type 0 where
  pub asked : (r : CredentialReading) → CredentialReads t r → AsksForOwn pattern r
  pub reached : (r : UriReading) → UriReads t r → ConnectsToOwn pattern r

-- if a pattern without `*` in its host matches an HTTP location that `AgreesWithGit`, Git's credential code and a
-- URI reader find the pattern's scheme, host and port in the location's text
abbrev pub PickedGoesToOwn : Type 0
PickedGoesToOwn = (v : Location) (t : List ℕ) (place pattern : NormalPlace)
    → IsValue v → IsWeb v → AgreesWithGit v → text v ≡ Ok t
    → IsNormalOf false t place → Matches pattern place → FreeOf asterisk pattern.host
    → ReachesOwn t pattern

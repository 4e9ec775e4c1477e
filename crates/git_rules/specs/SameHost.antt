-- Locations that name the same host.
use Rattle.std.specs.Prelude.{◌≡◌, ◌↔◌, ℕ, Bool, IsTrue, List, Result, Ok, Err, ◌⊎◌, option_map, bytes_eq}
use Rattle.git_syntax.specs.Bytes.{lowercase}
use Rattle.git_syntax.specs.Internal.FoundPieces.{ssh_host}
use Rattle.git_syntax.specs.Location.{Location}
use Rattle.git_syntax.specs.Grammar.{Spells}
use Rattle.git_location.specs.Readings.{ReadsIn}
use Rattle.git_location.specs.declared.parse_error.ParseError.{ParseError}

-- the name of a host: in lower case, without brackets around it and without a lone colon after it
abbrev pub host_name : List ℕ → List ℕ
host_name host = lowercase (ssh_host host)

-- both texts name the same host
abbrev pub names_same : List ℕ → List ℕ → Bool
names_same a b = bytes_eq (host_name a) (host_name b)

-- both locations have a host with the same name, or neither has a host
abbrev pub HaveSameHost : Location → Location → Type 0
HaveSameHost v w = option_map host_name v.host ≡ option_map host_name w.host

-- both texts are parsed, and the result is whether they name the same host; or it is the error of the first text,
-- or, if that one is parsed, the error of the second
abbrev pub ComparesHosts : List ℕ → ℕ → List ℕ → ℕ → Result Bool ParseError → Type 0
ComparesHosts a buffer_len b other (Ok same) = (v : Location) × (w : Location) × Spells a v × Spells b w
    × (IsTrue same ↔ HaveSameHost v w)
ComparesHosts a buffer_len b other (Err e) = ReadsIn a buffer_len (Err e)
    ⊎ (((v : Location) × ReadsIn a buffer_len (Ok v)) × ReadsIn b other (Err e))

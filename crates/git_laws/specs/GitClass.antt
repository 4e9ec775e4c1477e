-- The law on the class of locations in whose texts Git reads the same as this library.
use Rattle.std.specs.Prelude.{◌≡◌, ℕ, List, Option, Some, None, Ok}
use Rattle.git_syntax.specs.Location.{Scheme, Location}
use Rattle.git_syntax.specs.Location.Scheme.{git, http, https}
use Rattle.git_syntax.specs.Grammar.{Unbrackets}
use Rattle.git_location.specs.Text.{text}
use Rattle.git_location.specs.Settled.{IsValue}
use Rattle.git_reads.specs.Git.{GitReading, GitReads}
use Rattle.git_laws.specs.GitWeb.{ReadsOwnOverWeb}
pub use Rattle.git_class.specs.GitClass.{is_contested, IsHostOfGit, HasPlainParts, HasNoOption, is_tilde_second, IsRsync, SuitsTransport, AgreesByTransport, AgreesWithGit}

-- the host that Git reads, for a location's host: with `git://` it has no brackets around it
abbrev pub HostForGit : Scheme → Option (List ℕ) → Option (List ℕ) → Type 0
HostForGit git None host = host ≡ None
HostForGit git (Some own) host = (inner : List ℕ) × Unbrackets own inner × (host ≡ Some inner)
HostForGit _ own host = host ≡ own

-- the location's own scheme, user, port and path, with this host
abbrev pub own_reading : Location → Option (List ℕ) → GitReading
own_reading v place = record {
  protocol = v.scheme;
  user = v.user;
  host = place;
  port = v.port;
  path = v.path;
}

-- Git reads the location's own scheme, user, host, port and path in the text
pub record ReadsOwnPlace (t : List ℕ) (v : Location) : Type 0 where
  pub host : Option (List ℕ)
  pub own : HostForGit v.scheme v.host host
  pub reads : GitReads t (own_reading v host)

-- Git reads the location's own fields in the text, by the scheme: with HTTP, its credential code and a reader
-- of URIs do
abbrev pub ReadsOwnBy : Scheme → List ℕ → Location → Type 0
ReadsOwnBy http t v = ReadsOwnOverWeb t v
ReadsOwnBy https t v = ReadsOwnOverWeb t v
ReadsOwnBy _ t v = ReadsOwnPlace t v

-- Git reads the location's own fields in the text
abbrev pub ReadsOwn : List ℕ → Location → Type 0
ReadsOwn t v = ReadsOwnBy v.scheme t v

-- the location has a text, and in any text of it Git reads the location's own fields
pub record IsReadAlike (v : Location) : Type 0 where
  pub written : List ℕ
  pub has_text : text v ≡ Ok written
  pub read : (t : List ℕ) → text v ≡ Ok t → ReadsOwn t v

-- a location that `AgreesWithGit` has a text, and Git reads the location's own fields in it
abbrev pub ReadAlike : Type 0
ReadAlike = (v : Location) → IsValue v → AgreesWithGit v → IsReadAlike v

-- The law on Secure Shell: if Git reads the same place in the text of a location, Git runs Secure Shell with the
-- command's own words.
use Rattle.std.specs.Prelude.{◌≡◌, ℕ, List, Option, Some, None, Ok}
use Rattle.git_syntax.specs.Location.{Location}
use Rattle.git_syntax.specs.Location.Scheme.{ssh}
use Rattle.git_location.specs.Text.{text}
use Rattle.git_location.specs.Settled.{IsValue}
use Rattle.git_class.specs.GitClass.{AgreesWithGit}
use Rattle.git_reads.specs.Git.{GitReading, GitReads, ReachesSecure}
use Rattle.git_rules.specs.SecureShell.{Request, destination, request_refusal, ssh_refusal}

-- for the text, Git passes this word for user and host, this port and this path to Secure Shell, and so reaches the
-- place that it reads there
pub record GivesSecure (t passed : List ℕ) (number : Option ℕ) (path : List ℕ) : Type 0 where
  pub reading : GitReading
  pub reads : GitReads t reading
  pub place : List ℕ
  pub reaches : ReachesSecure place path reading
  pub word : reaches.word ≡ passed
  pub port : reaches.port ≡ number

-- there is a command for the location, unless the variant `simple` lacks an option for it or the program is
-- refused; its destination, port and path are those that Git passes to Secure Shell for the text of the location
pub record HasOwnWords (v : Location) : Type 0 where
  pub host : List ℕ
  pub there : v.host ≡ Some host
  pub built : (r : Request) → request_refusal r v.port ≡ None → ssh_refusal r v ≡ None
  pub words : (t : List ℕ) → text v ≡ Ok t → GivesSecure t (destination v.user host) v.port v.path

-- for each Secure Shell location that `AgreesWithGit` there is a command, unless the request is refused, and its
-- destination, port and path are those that Git passes to Secure Shell for the location's text
abbrev pub GivesOwnWords : Type 0
GivesOwnWords = (v : Location) → IsValue v → AgreesWithGit v → v.scheme ≡ ssh → HasOwnWords v

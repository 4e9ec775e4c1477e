-- The pieces of a written URL, and the fields that its reader finds in each.
use Rattle.std.specs.Prelude.{◌≡◌, ℕ, ◌<◌, Bool, true, List, [], ◌∷◌, ◌++◌, length, Option, Some, IsUtf8}
use Rattle.percent_encoding.specs.Percent.{percent_decode}
use Rattle.git_syntax.specs.Location.{Location}
use Rattle.git_syntax.specs.Bytes.{at_sign, backslash, Lacks, FreeOf, LacksWhiteSpace, is_path_start, StartsPath}
use Rattle.git_syntax.specs.Escapes.{is_sound}
use Rattle.git_syntax.specs.Hosts.{HostSyntax, SpellsHostPort, port_part}
use Rattle.git_syntax.specs.Schemes.{requires_path}
use Rattle.git_syntax.specs.Authority.{Credentials}
use Rattle.git_syntax.specs.Grammar.{path_for, retained_spelling}
use Rattle.git_location.specs.Text.{user_information, canonical_host, canonical_path}
use Rattle.git_location.specs.Settled.{HasFairSpelling}

-- text without white space, in which every escape is sound
pub record IsEscapedPiece (t : List ℕ) : Type 0 where
  pub text : IsUtf8 t
  pub sound : is_sound t ≡ true
  pub no_white_space : LacksWhiteSpace t

-- such text that may occur in an authority
pub record IsAuthorityPiece (t : List ℕ) : Type 0 where
  pub escaped : IsEscapedPiece t
  pub no_backslash : FreeOf backslash t
  pub before_path : Lacks (is_path_start true) t

-- the written user information is that of the user and the password
pub record WritesInformation (user : List ℕ) (password : Option (List ℕ)) : Type 0 where
  pub information : List ℕ
  pub written : user_information (Some user) password ≡ information ++ at_sign ∷ []
  pub credentials : Credentials information (Some user) password
  pub piece : IsAuthorityPiece information

-- the host and the port of a location, as a URL has them
abbrev pub host_and_port : Location → List ℕ → List ℕ
host_and_port v host = canonical_host v host ++ port_part v.port

-- the written host and port name a host and that port
pub record WritesHost (syntax : HostSyntax) (v : Location) (host named : List ℕ) : Type 0 where
  pub no_at : FreeOf at_sign (host_and_port v host)
  pub names : SpellsHostPort syntax (host_and_port v host) (Some named) v.port
  pub piece : IsAuthorityPiece (host_and_port v host)

-- the location with the spelling that its URL is read with
abbrev pub as_read : Location → Location
as_read v = record v { spelling = retained_spelling (canonical_path v) }

-- the written path denotes the path, and is written the same again
pub record WritesPath (web : Bool) (v : Location) : Type 0 where
  pub starts : StartsPath web (canonical_path v)
  pub escaped : IsEscapedPiece (canonical_path v)
  pub decoded : IsUtf8 (percent_decode (canonical_path v))
  pub denoted : path_for v.scheme (percent_decode (canonical_path v)) ≡ v.path
  pub present : requires_path v.scheme ≡ true → 0 < length (canonical_path v)
  pub again : canonical_path (as_read v) ≡ canonical_path v
  pub fair : HasFairSpelling (as_read v)

-- The pieces of a simple text, and the location that they denote.
use Rattle.std.specs.Prelude.{◌≡◌, ℕ, List, ◌++◌, Option, None, IfSome, option_map}
use Rattle.git_syntax.specs.declared.simple.SimplePieces.{SimplePieces}
use Rattle.git_syntax.specs.Hosts.{port_part, raw_user}
use Rattle.git_syntax.specs.Location.{Location}
use Rattle.git_syntax.specs.SimpleTexts.{IsSimplePort}
use Rattle.git_syntax.specs.Views.{borrowed_scheme}
use Rattle.git_syntax.specs.Internal.HostPieces.{IsSimpleHost}

-- the location with these fields
abbrev pub simple_location : SimplePieces → Location
simple_location it = record {
  scheme = borrowed_scheme it.scheme;
  user = option_map (λ t. t.now) it.user;
  password = None;
  host = option_map (λ t. t.now) it.host;
  flag = it.flag;
  port = it.port;
  path = it.path.now;
  spelling = None;
}

-- the text is a simple user and `@`, if there is a user, and the rest
pub record CutsSimpleUser (text : List ℕ) (user : Option (List ℕ)) (rest : List ℕ) : Type 0 where
  pub simple : IfSome user IsSimpleHost
  pub joined : text ≡ raw_user user ++ rest

-- the text is a simple host and a port, if there is one
pub record IsSimplePlace (text host : List ℕ) (port : Option ℕ) : Type 0 where
  pub simple : IsSimpleHost host
  pub allowed : IfSome port IsSimplePort
  pub joined : text ≡ host ++ port_part port

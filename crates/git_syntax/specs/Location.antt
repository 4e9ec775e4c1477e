-- A location as contracts see it: plain values without Rust types.
use Rattle.std.specs.Prelude.{ℕ, Bool, List, Option, None}

-- the known schemes, a remote helper by its name, and any other URL by its scheme
pub data Scheme : Type 0 where
  file : Scheme
  git : Scheme
  ssh : Scheme
  http : Scheme
  https : Scheme
  ext : Scheme
  helper : List ℕ → Scheme
  helper_url : List ℕ → Scheme

-- the eight fields of a location: the seven public ones, and the retained spelling of the path
pub record Location : Type 0 where
  pub scheme : Scheme
  pub user : Option (List ℕ)
  pub password : Option (List ℕ)
  pub host : Option (List ℕ)
  pub flag : Bool
  pub port : Option ℕ
  pub path : List ℕ
  pub spelling : Option (List ℕ)

-- the seven public fields: the location without its spelling
abbrev pub fields : Location → Location
fields v = record v { spelling = None }

-- a location of a scheme, the alternative-form flag and a path only
abbrev pub path_alone : Scheme → Bool → List ℕ → Location
path_alone named flagged whole = record {
  scheme = named;
  user = None;
  password = None;
  host = None;
  flag = flagged;
  port = None;
  path = whole;
  spelling = None;
}

-- The pieces of a text in which a check finds no flaw.
use Rattle.std.specs.Prelude.{◌≡◌, ◌+◌, ◌<◌, ◌≤◌, ℕ, Bool, true, List, ◌++◌, length, Option, IfSome, IsUtf8, MatchOption}
use Rattle.percent_encoding.specs.Percent.{percent_decode}
use Rattle.git_syntax.specs.Bytes.{backslash, Lacks, FreeOf, is_scheme_text, is_path_start, StartsPath}
use Rattle.git_syntax.specs.Location.{Location}
use Rattle.git_syntax.specs.Hosts.{HostSyntax, SpellsHostPort}
use Rattle.git_syntax.specs.Schemes.{is_web_scheme, scheme_of, host_syntax_of, requires_host, requires_path}
use Rattle.git_syntax.specs.Authority.{Credentials}
use Rattle.git_syntax.specs.Grammar.{SpellsUrl, SpellsFile, ScpUser, ScpHost, SpellsScpBefore, SpellsScpAddressed, Spells}
use Rattle.git_syntax.specs.Escapes.{escaped_percents}
use Rattle.git_syntax.specs.Internal.ScpPieces.{SpellsHost}
use Rattle.git_syntax.specs.Internal.UrlPieces.{HoldsHosted}
use Rattle.git_refusals.specs.declared.place.Place.{Place}

-- the piece spells a host and a port, or is empty
abbrev pub NamesHost : HostSyntax → List ℕ → Type 0
NamesHost syntax piece = (host : Option (List ℕ)) × (port : Option ℕ) × SpellsHostPort syntax piece host port

-- the text is an authority, with a host if one is needed
pub record HoldsParts (syntax : HostSyntax) (needed : Bool) (authority : List ℕ) : Type 0 where
  pub user : Option (List ℕ)
  pub password : Option (List ℕ)
  pub host : Option (List ℕ)
  pub port : Option ℕ
  pub clean : FreeOf backslash authority
  pub held : HoldsHosted syntax needed authority user password host port

-- the bytes are a URL
abbrev pub IsUrl : List ℕ → Type 0
IsUrl b = (v : Location) × SpellsUrl b v

-- the result of a check: the flaw that it finds in the piece, or `None`, and then `readable` holds
pub record Checks (piece : List ℕ) (check : Place → Type 0) (readable : Type 0) (result : Option Place) : Type 0 where
  pub found : MatchOption result readable check
  pub within : IfSome result (λ p. p.at + p.len ≤ length piece)

-- user information consists of a user and a password
abbrev pub HoldsUser : List ℕ → Type 0
HoldsUser information = (user : Option (List ℕ)) × (password : Option (List ℕ)) × Credentials information user password

-- the bytes are a file URL
abbrev pub IsFileUrl : List ℕ → Type 0
IsFileUrl b = (v : Location) × SpellsFile b v

-- the bytes are the scp form, and its host denotes one
abbrev pub IsScp : List ℕ → Type 0
IsScp b = (v : Location) × SpellsScpBefore b v

-- the bytes are the form `user@[address]:path`
abbrev pub IsAddressedScp : List ℕ → Type 0
IsAddressedScp b = (v : Location) × SpellsScpAddressed b v

-- a host of the scp form denotes one
abbrev pub DenotesScpHost : List ℕ → Type 0
DenotesScpHost host = (denoted : List ℕ) × ScpHost host denoted

-- a host of the scp form that isn't empty spells one
abbrev pub NamesScpHost : List ℕ → Type 0
NamesScpHost host = (denoted : List ℕ) × SpellsHost (escaped_percents host) denoted

-- the front of the scp form is a host, or a user and a host
pub record IsScpFront (front : List ℕ) : Type 0 where
  pub user : Option (List ℕ)
  pub host : List ℕ
  pub split : ScpUser front user host
  pub hosted : DenotesScpHost host

-- the text is a scheme
abbrev pub IsScheme : List ℕ → Type 0
IsScheme scheme = is_scheme_text scheme ≡ true

-- the text after the `://` of a URL is an authority and a path; a path is there if one is needed
pub record HoldsRest (scheme rest : List ℕ) : Type 0 where
  pub authority : List ℕ
  pub path : List ℕ
  pub joined : rest ≡ authority ++ path
  pub before_path : Lacks (is_path_start (is_web_scheme scheme)) authority
  pub path_starts : StartsPath (is_web_scheme scheme) path
  pub path_text : IsUtf8 (percent_decode path)
  pub held : HoldsParts (host_syntax_of scheme) (requires_host scheme) authority
  pub pathed : requires_path (scheme_of scheme) ≡ true → 0 < length path

-- the bytes spell a location
abbrev pub IsSpelled : List ℕ → Type 0
IsSpelled b = (v : Location) × Spells b v

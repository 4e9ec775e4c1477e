-- The pieces of a host in which a check finds no flaw.
use Rattle.std.specs.Prelude.{◌≡◌, ℕ, ◌⊎◌, List, [], ◌++◌}
use Rattle.git_syntax.specs.Bytes.{colon, FreeOf}
use Rattle.git_syntax.specs.Hosts.{HostSyntax, HostText, Inner, Number, EndsHost}

-- a text outside brackets denotes a host
abbrev pub DenotesHost : HostSyntax → List ℕ → Type 0
DenotesHost syntax text = (host : List ℕ) × HostText syntax text host

-- a text in brackets denotes another
abbrev pub DenotesInner : HostSyntax → List ℕ → Type 0
DenotesInner syntax text = (inner : List ℕ) × Inner syntax text inner

-- the text after the colon of a port: empty, or a port
abbrev pub IsPortText : HostSyntax → List ℕ → Type 0
IsPortText syntax digits = (digits ≡ []) ⊎ ((port : ℕ) × Number syntax digits port)

-- the text up to the first colon, or the whole text
pub record IsBeforeColon (text front : List ℕ) : Type 0 where
  pub no_colon : FreeOf colon front
  pub rest : List ℕ
  pub joined : text ≡ front ++ rest
  pub followed : EndsHost rest

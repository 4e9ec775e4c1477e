-- The results of the reader of the scp form: the pieces of its front, and its host or a flaw of it.
use Rattle.std.specs.Prelude.{◌≡◌, ℕ, ◌⊎◌, List, ◌∷◌, ◌++◌, Option, Some, None, Result, MatchResult}
use Rattle.std.specs.Option.{option_copied}
use Rattle.std.specs.Borrow.{Bor}
use Rattle.git_syntax.specs.declared.refusal.UrlFault.{UrlFault}
use Rattle.git_syntax.specs.declared.found.ScpHost as rust
use Rattle.git_syntax.specs.Bytes.{colon, at_sign, right_bracket, FreeOf}
use Rattle.git_syntax.specs.Escapes.{escaped_percents}
use Rattle.git_syntax.specs.Hosts.{SpellsHostPort}
use Rattle.git_syntax.specs.Hosts.HostSyntax.{git_hosts}
use Rattle.git_syntax.specs.Grammar.{ScpUser, ScpHost, Unbrackets}
use Rattle.git_syntax.specs.Flaws.{ScpNameFlaw, ScpHostFlaw}
use Rattle.git_syntax.specs.Internal.FoundPieces.{scp_host_of}

-- the front is cut at its last `@`
pub record CutsUser (front : List ℕ) (user : Option (Bor (List ℕ))) (host : List ℕ) : Type 0 where
  pub split : ScpUser front (option_copied user) host
  pub no_at : FreeOf at_sign host

-- each colon of the text comes before its first closing bracket
abbrev pub ColonsInside : List ℕ → Type 0
ColonsInside text = FreeOf colon text
    ⊎ ((inside : List ℕ) × (rest : List ℕ) × FreeOf right_bracket inside × FreeOf colon rest
    × (text ≡ inside ++ right_bracket ∷ rest))

-- the text spells this host, which may have brackets around it
pub record SpellsHost (piece denoted : List ℕ) : Type 0 where
  pub named : List ℕ
  pub names : SpellsHostPort git_hosts piece (Some named) None
  pub unbracketed : Unbrackets named denoted

-- the result for a host that isn't empty: the host that it spells with each `%` escaped, or a flaw of it
abbrev pub ReadsScpPiece : List ℕ → Result rust.ScpHost UrlFault → Type 0
ReadsScpPiece host result = MatchResult result
    (λ found. SpellsHost (escaped_percents host) (scp_host_of found))
    (λ fault. ScpNameFlaw host fault)

-- the result for the host of the scp form: the host that it denotes, or a flaw of it
abbrev pub ReadsScpHost : List ℕ → Result rust.ScpHost UrlFault → Type 0
ReadsScpHost host result = MatchResult result
    (λ found. ScpHost host (scp_host_of found))
    (λ fault. ScpHostFlaw host fault)

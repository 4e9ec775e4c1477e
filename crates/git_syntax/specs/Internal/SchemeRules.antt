-- The rules of the code for the scheme of a URL, and the definitions that they represent.
use Rattle.std.specs.Prelude.{◌≡◌, List, ℕ}
use Rattle.git_syntax.specs.declared.scheme.KnownScheme as rust
use Rattle.git_syntax.specs.declared.scheme.KnownScheme.TheVariants as read
use Rattle.git_syntax.specs.declared.rules.Rules.{Rules}
use Rattle.git_syntax.specs.Location.{Scheme}
use Rattle.git_syntax.specs.Location.Scheme.{file, git, ssh, http, https, ext, helper_url}
use Rattle.git_syntax.specs.Schemes.{is_web_scheme, scheme_of, host_syntax_of, requires_host, requires_path}
use Rattle.git_syntax.specs.Internal.HostPieces.{host_syntax}

-- the scheme that a `KnownScheme` with this text represents
abbrev pub scheme_named : rust.KnownScheme → List ℕ → Scheme
scheme_named read.File scheme = file
scheme_named read.Git scheme = git
scheme_named read.Ssh scheme = ssh
scheme_named read.Http scheme = http
scheme_named read.Https scheme = https
scheme_named read.Ext scheme = ext
scheme_named read.Other scheme = helper_url scheme

-- the rules are those of the scheme
pub record AreRulesOf (scheme : List ℕ) (rules : Rules) : Type 0 where
  -- its scheme
  pub known : scheme_named rules.known scheme ≡ scheme_of scheme
  -- how a host is read
  pub syntax : host_syntax rules.syntax ≡ host_syntax_of scheme
  -- whether a host is needed
  pub host : rules.needs_host ≡ requires_host scheme
  -- whether it is one of HTTP's, whose paths may begin with more bytes
  pub web : rules.web ≡ is_web_scheme scheme
  -- whether a path is needed
  pub path : rules.needs_path ≡ requires_path (scheme_of scheme)

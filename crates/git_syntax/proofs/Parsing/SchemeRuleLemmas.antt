-- The decisions of the code about the scheme of a URL: which one it names.
use Rattle.std.proofs.Common.{◌≡◌, ℕ, List, arith}
use Rattle.git_syntax.specs.declared.scheme.KnownScheme as rust
use Rattle.git_syntax.specs.declared.scheme.KnownScheme.TheVariants as read
use Rattle.git_syntax.specs.Location.Scheme.{ext}
use Rattle.git_syntax.specs.Internal.SchemeRules.{scheme_named}

-- only one name of the code is that of `ext`
pub named_ext : (p : rust.KnownScheme) (s : List ℕ) → scheme_named p s ≡ ext → p ≡ read.Ext
named_ext p s e = grind arith

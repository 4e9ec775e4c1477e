-- Laws on parse errors, over the definitions alone: a text with a flaw spells no location.
use Rattle.std.specs.Prelude.{◌≢◌, ℕ, List}
use Rattle.gix_url.specs.declared.error.Error.{Error}
use Rattle.gix_url.specs.declared.error.Error.TheVariants as error
use Rattle.git_syntax.specs.Location.{Location}
use Rattle.git_syntax.specs.Grammar.{Spells}
use Rattle.gix_url.specs.Flaws.{Flaw}
pub use Rattle.git_syntax.specs.Refusals.{HasFlaw, Flawless, Decided}
pub use Rattle.git_refusals.specs.Laws.{OneRefusal, RefusedUnspelled, RefusedWithin, RefusedFlaw}

-- bytes with the flaw of an error spell no location; a failed allocation is not a flaw of them
abbrev pub Exclusive : Type 0
Exclusive = (b : List ℕ) (e : Error) (v : Location) → e ≢ error.Memory → Flaw b e → ¬ Spells b v

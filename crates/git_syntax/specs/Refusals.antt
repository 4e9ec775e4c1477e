-- Laws on parse errors, over the definitions alone: a text with a flaw spells no location.
use Rattle.std.specs.Prelude.{ℕ, ◌⊎◌, List}
use Rattle.git_syntax.specs.declared.refusal.Refusal.{Refusal}
use Rattle.git_syntax.specs.Location.{Location}
use Rattle.git_syntax.specs.Grammar.{Spells}
use Rattle.git_syntax.specs.Flaws.{NamesFlaw}

-- the text has a flaw that some error names
abbrev pub HasFlaw : List ℕ → Type 0
HasFlaw b = (r : Refusal) × NamesFlaw b r

-- a text that spells a location has no flaw
abbrev pub Flawless : Type 0
Flawless = (b : List ℕ) (v : Location) → Spells b v → ¬ HasFlaw b

-- a text spells a location or has a flaw
abbrev pub Decided : Type 0
Decided = (b : List ℕ) → ((v : Location) × Spells b v) ⊎ HasFlaw b

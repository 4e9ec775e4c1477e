-- Laws on refusals: each text that spells no location has exactly one, and all other texts have none.
use Rattle.std.specs.Prelude.{◌≡◌, ℕ, ◌+◌, ◌≤◌, List, length}
use Rattle.git_syntax.specs.Location.{Location}
use Rattle.git_syntax.specs.Grammar.{Spells}
use Rattle.git_refusals.specs.declared.refusal.Refusal.{Refusal}
use Rattle.git_refusals.specs.Reasons.{Refused}
use Rattle.git_refusals.specs.Promised.{NamesKind}

-- a text has at most one refusal: if it has several flaws, always the same one is named, at one place
abbrev pub OneRefusal : Type 0
OneRefusal = (b : List ℕ) (r s : Refusal) → Refused b r → Refused b s → r ≡ s

-- a text with a refusal spells no location
abbrev pub RefusedUnspelled : Type 0
RefusedUnspelled = (b : List ℕ) (r : Refusal) → Refused b r → (v : Location) → ¬ Spells b v

-- the place of a refusal is in its text
abbrev pub RefusedWithin : Type 0
RefusedWithin = (b : List ℕ) (r : Refusal) → Refused b r → r.at + r.len ≤ length b

-- the flaw that the error of a refusal names is in the text
abbrev pub RefusedFlaw : Type 0
RefusedFlaw = (b : List ℕ) (r : Refusal) → Refused b r → NamesKind b r

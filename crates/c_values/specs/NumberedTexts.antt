-- The text of what has a number, as C gets it.
use Rattle.std.specs.Prelude.{◌≡◌, ◌⊎◌, ℕ, List}
use Rattle.c_values.specs.Answers.{PutsText}
use Rattle.c_values.specs.Codes.{HasNumber, no_location}

-- the text in the table for what has this number is copied; or nothing has the number, and the length is 0
abbrev pub PutsNumbered : {A : Type 0} → (A → ℕ) → (A → List ℕ) → ℕ → List ℕ → List ℕ → ℕ → ℕ → Type 0
PutsNumbered {A} number table n old new len code = ((a : A) × (number a ≡ n) × PutsText (table a) old new len code)
    ⊎ ((¬ HasNumber number n) × (code ≡ no_location) × (len ≡ 0))

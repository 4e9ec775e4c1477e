-- Laws of reading a configuration.
use Rattle.std.specs.Prelude.{◌≡◌, ℕ, List}
use Rattle.git_rules.specs.ConfigItems.{Item, ReadsItems, start}

-- a text has one reading: it determines its items, both entries and errors
abbrev pub OneReading : Type 0
OneReading = (text : List ℕ) (a b : List Item) → ReadsItems (start text) a → ReadsItems (start text) b → a ≡ b

-- The laws on the pieces of a text.
use Rattle.std.specs.Prelude.{◌≡◌, ℕ, List}
use Rattle.git_secrets.specs.Secrets.{joined, parts_of}

-- the pieces of a text joined are the text
abbrev pub AreWhole : Type 0
AreWhole = (text : List ℕ) → joined (parts_of text) ≡ text

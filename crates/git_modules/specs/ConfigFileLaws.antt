-- Laws of reading a configuration file.
use Rattle.std.specs.Prelude.{◌≡◌, ℕ, List, []}
use Rattle.git_modules.specs.ConfigFileFlaws.{Refusal}
use Rattle.git_modules.specs.ConfigFiles.{Turn, AreItems, HasFileEntries, StopsAt}
use Rattle.git_modules.specs.declared.config_file.FileEntry.{FileEntry}

-- a text that is read to its end has one list of items
abbrev pub OneListOfItems : Type 0
OneListOfItems = (text : List ℕ) (a b : List Turn) → AreItems text a [] → AreItems text b [] → a ≡ b

-- a text that is read to its end has no error
abbrev pub NoEntriesAndStop : Type 0
NoEntriesAndStop = (text : List ℕ) (found : List FileEntry) (refusal : Refusal)
    → HasFileEntries text found → ¬ StopsAt text refusal

-- a text has at most one error
abbrev pub OneStop : Type 0
OneStop = (text : List ℕ) (a b : Refusal) → StopsAt text a → StopsAt text b → a ≡ b

-- a text has one reading
abbrev pub OneFileReading : Type 0
OneFileReading = OneListOfItems × NoEntriesAndStop × OneStop

-- How entries are stored while the items of a configuration file are read.
use Rattle.std.specs.Prelude.{◌≡◌, ℕ, List, [], ◌∷◌, ◌++◌, Option, option_map}
use Rattle.git_modules.specs.declared.config_file.FileEntry.{FileEntry}
use Rattle.git_modules.specs.declared.config_file.keep.Owner.{Owner}
use Rattle.git_modules.specs.declared.config_file.step.Step.{Step}
use Rattle.git_modules.specs.declared.config_file.step.Step.TheVariants.{Nothing, Header, Setting}
use Rattle.git_modules.specs.ConfigFiles.{SpellsStem}

-- the section and the subsection are those of keys that begin with the stem
abbrev pub Owns : List ℕ → Owner → Type 0
Owns stem owner = SpellsStem stem owner.section.now (option_map (λ t. t.now) owner.subsection)

-- the entry consists of an owner, a name and a value
abbrev pub IsMadeOf : Owner → List ℕ → Option (List ℕ) → ℕ → ℕ → FileEntry → Type 0
IsMadeOf owner key value at line e = (e.entry.section ≡ owner.section.now)
    × (e.entry.subsection ≡ option_map (λ t. t.now) owner.subsection) × (e.entry.name ≡ key)
    × (e.entry.value ≡ value)
    × (e.entry.at ≡ at) × (e.line ≡ line)

-- a header sets the next owner, a setting appends one entry, and nothing else changes
abbrev pub Keeps : Step → Owner → ℕ → ℕ → List FileEntry → List FileEntry → Owner → Type 0
Keeps Nothing owner at line old new next = (new ≡ old) × (next ≡ owner)
Keeps (Header stem) owner at line old new next = (new ≡ old) × Owns stem.now next
Keeps (Setting key value) owner at line old new next = (next ≡ owner)
    × ((e : FileEntry) × (new ≡ old ++ e ∷ [])
    × IsMadeOf owner key.now (option_map (λ t. t.now) value) at line e)

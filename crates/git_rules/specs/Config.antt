-- The entries of a configuration: their plain values, and the text that Git writes for them.
use Rattle.std.specs.Prelude.{◌≡◌, ℕ, Bool, ◌&&◌, List, [], ◌∷◌, ◌++◌, Option, Some, None}
use Rattle.std.specs.List.{filter}
use Rattle.git_syntax.specs.Bytes.{FreeOf, dot, newline}
use Rattle.git_rules.specs.Words.{is_word}

-- an entry as plain values: `section.subsection.name`, its value, and the byte offset at which it begins
pub record ConfigEntry : Type 0 where
  pub section : List ℕ
  pub subsection : Option (List ℕ)
  pub name : List ℕ
  pub value : Option (List ℕ)
  pub at : ℕ

-- the entry is in the section, ignoring letter case
abbrev pub is_of_section : List ℕ → ConfigEntry → Bool
is_of_section section e = is_word e.section section

-- the entries of the section, in their order
abbrev pub of_section : List ℕ → List ConfigEntry → List ConfigEntry
of_section section entries = filter (is_of_section section) entries

-- the entry has the name, ignoring letter case
abbrev pub has_name : List ℕ → ConfigEntry → Bool
has_name name e = is_word e.name name

-- the entry sets the variable of the section and the name, with or without a subsection
abbrev pub sets : List ℕ → List ℕ → ConfigEntry → Bool
sets section name e = is_of_section section e && has_name name e

-- the part of a key after its first dot: the subsection, if there is one, and the name
abbrev pub name_text : Option (List ℕ) → List ℕ → List ℕ
name_text None name = name
name_text (Some subsection) name = subsection ++ dot ∷ name

-- the key of a section, a subsection and a name
abbrev pub key_text : List ℕ → Option (List ℕ) → List ℕ → List ℕ
key_text section subsection name = section ++ dot ∷ name_text subsection name

-- the section and the name are not empty and contain no dot
abbrev pub IsKey : List ℕ → List ℕ → Type 0
IsKey section name = FreeOf dot section × (¬ (section ≡ [])) × FreeOf dot name × (¬ (name ≡ []))

-- the key consists of this section, subsection and name
abbrev pub SpellsKey : List ℕ → List ℕ → Option (List ℕ) → List ℕ → Type 0
SpellsKey key section subsection name = IsKey section name × (key ≡ key_text section subsection name)

-- the text after a key: nothing, or a line feed and the value
abbrev pub value_text : Option (List ℕ) → List ℕ
value_text None = []
value_text (Some value) = newline ∷ value

-- the line spells this entry: a key without a line feed, and the text after it
abbrev pub SpellsEntry : List ℕ → ConfigEntry → Type 0
SpellsEntry line e = (key : List ℕ) × FreeOf newline key × SpellsKey key e.section e.subsection e.name
    × (line ≡ key ++ value_text e.value)

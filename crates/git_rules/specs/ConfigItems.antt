-- Reading a configuration: its entries in turn, and its errors.
use Rattle.std.specs.Prelude.{◌≡◌, ℕ, ◌+◌, ◌⊎◌, List, [], ◌∷◌, ◌++◌, Option, Some, None, Result, Ok, Err, MatchOption, All, length, option_map}
use Rattle.std.specs.Borrow.{Bor}
use Rattle.git_syntax.specs.Bytes.{FreeOf, dot, newline}
use Rattle.git_rules.specs.Config.{ConfigEntry, SpellsEntry, SpellsKey, name_text, value_text}
use Rattle.git_rules.specs.declared.config.EntryError.{EntryError}
use Rattle.git_rules.specs.declared.config.EntryError.TheVariants.{NoKey, NoEnd}

-- one item of a configuration: an entry, or an error
abbrev pub Item : Type 0
Item = Result ConfigEntry EntryError

-- the rest of a text, and the byte offset at which it begins
pub record Place : Type 0 where
  pub rest : List ℕ
  pub at : ℕ

-- the start of a text
abbrev pub start : List ℕ → Place
start text = record { rest = text; at = 0 }

-- the key of a line, and the value after it
abbrev pub CutsValue : List ℕ → Bor (List ℕ) × Option (Bor (List ℕ)) → Type 0
CutsValue line p = FreeOf newline p.0.now × (line ≡ p.0.now ++ value_text (option_map (λ t. t.now) p.1))

-- the subsection and the name after the first dot of a key
abbrev pub CutsName : List ℕ → Option (Bor (List ℕ)) × Bor (List ℕ) → Type 0
CutsName suffix p = FreeOf dot p.1.now × (suffix ≡ name_text (option_map (λ t. t.now) p.0) p.1.now)

-- the parts of a key, or none if nothing spells it
abbrev pub CutsKey : List ℕ → Option (Bor (List ℕ) × Option (Bor (List ℕ)) × Bor (List ℕ)) → Type 0
CutsKey key found = MatchOption found
    ((s : List ℕ) (sub : Option (List ℕ)) (n : List ℕ) → ¬ SpellsKey key s sub n)
    (λ p. SpellsKey key p.0.now (option_map (λ t. t.now) p.1) p.2.now)

-- the meaning of a line that begins at a byte: the entry that it spells, or an error if it spells none
abbrev pub MeansItem : ℕ → List ℕ → Item → Type 0
MeansItem at line (Ok e) = SpellsEntry line e × (e.at ≡ at)
MeansItem at line (Err (NoKey place)) = (place ≡ at) × ((e : ConfigEntry) → ¬ SpellsEntry line e)
MeansItem at line (Err (NoEnd place)) = ⊥

-- the line up to the first byte 0 means the item, and the text after that byte remains
abbrev pub ReadsLine : Place → Item → Place → Type 0
ReadsLine from item next = (line : List ℕ) × FreeOf 0 line × (from.rest ≡ line ++ 0 ∷ next.rest)
    × (next.at ≡ from.at + length line + 1) × MeansItem from.at line item

-- there is no byte 0, so the rest has no end, and nothing remains
abbrev pub ReadsNoEnd : Place → Item → Place → Type 0
ReadsNoEnd from item next = FreeOf 0 from.rest × (¬ (from.rest ≡ [])) × (item ≡ Err (NoEnd from.at))
    × (next.rest ≡ []) × (next.at ≡ from.at + length from.rest)

-- the item at a place, and the next place
abbrev pub ReadsItem : Place → Item → Place → Type 0
ReadsItem from item next = ReadsLine from item next ⊎ ReadsNoEnd from item next

-- the items from a place on
abbrev pub ReadsItems : Place → List Item → Type 0
ReadsItems from [] = from.rest ≡ []
ReadsItems from (item ∷ items) = (next : Place) × ReadsItem from item next × ReadsItems next items

-- the entries among the items
abbrev pub entries_of : List Item → List ConfigEntry
entries_of [] = []
entries_of (Ok e ∷ items) = e ∷ entries_of items
entries_of (Err _ ∷ items) = entries_of items

-- the entries of a text are these, in its order
abbrev pub HasEntries : List ℕ → List ConfigEntry → Type 0
HasEntries text found = (items : List Item) × ReadsItems (start text) items × (found ≡ entries_of items)

-- one step of a reader: nothing at the end, otherwise the item at its place
abbrev pub GivesItem : Place → Option Item → Place → Type 0
GivesItem from None next = (from.rest ≡ []) × (next ≡ from)
GivesItem from (Some item) next = ReadsItem from item next

-- the item is an entry
abbrev pub IsEntry : Item → Type 0
IsEntry (Ok e) = Unit {0}
IsEntry (Err error) = ⊥

-- the text is a whole listing: each of its items is an entry, so each key has a section and a name, and a byte 0 ends each entry
abbrev pub IsListing : List ℕ → Type 0
IsListing text = (items : List Item) × ReadsItems (start text) items × All IsEntry items

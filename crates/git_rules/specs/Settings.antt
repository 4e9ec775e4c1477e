-- The entries of `http.*` whose values Git uses for a place: one for most names, and several for two names. Without
-- a place, as for a text without a normal form, only those for all places count.
use Rattle.std.specs.Prelude.{◌≡◌, ℕ, true, ◌<◌, ◌↔◌, ◌⊎◌, List, [], ◌∷◌, ◌++◌, codes, length, All, Contains, Option, Some, None, option_to_list, Result, Ok, Err}
use Rattle.std.specs.List.Sorted.{IsStrictlyIncreasing}
use Rattle.git_rules.specs.declared.pattern.Rank.{Rank}
use Rattle.git_rules.specs.declared.pattern.settings.Kind.{Kind}
use Rattle.git_rules.specs.declared.pattern.settings.Kind.TheVariants as kind
use Rattle.git_rules.specs.declared.pattern.settings.SettingsError.{SettingsError}
use Rattle.git_rules.specs.declared.pattern.settings.SettingsError.TheVariants.{Memory, NoRoom, NoValue}
use Rattle.git_rules.specs.Config.{ConfigEntry}
use Rattle.git_rules.specs.Normal.{NormalPlace}
use Rattle.git_rules.specs.Patterns.{IsBest, RanksNoHigher}
use Rattle.git_rules.specs.Words.{is_word}
use Rattle.git_rules.specs.PatternEntries.{BufferSuffices, RanksEntry}

-- ---- names

-- the values of `http.extraHeader` and of `http.curloptResolve` accumulate (git-config(1)), ignoring the letter
-- case of the name
abbrev pub IsListName : List ℕ → Type 0
IsListName name = (is_word name (codes "extraheader") ≡ true) ⊎ (is_word name (codes "curloptresolve") ≡ true)

-- the kind of a name of `http.*`
abbrev pub HasKind : List ℕ → Kind → Type 0
HasKind name kind.Single = ¬ IsListName name
HasKind name kind.List = IsListName name

-- ---- entries that Git takes

-- the entry sets `http.name` for the place, with this rank
abbrev pub RanksSetting : List ℕ → Option NormalPlace → ConfigEntry → Rank → Type 0
RanksSetting name place e rank = RanksEntry (codes "http") name place e rank

-- Git takes the entry at this index: it sets `http.name` for the place, and no earlier entry sets it with a higher
-- rank
pub record IsTakenAt (name : List ℕ) (place : Option NormalPlace) (entries : List ConfigEntry) (i : ℕ) (e : ConfigEntry) : Type 0 where
  pub before : List ConfigEntry
  pub others : List ConfigEntry
  pub rank : Rank
  pub joined : entries ≡ before ++ e ∷ others
  pub index : length before ≡ i
  pub ranks : RanksSetting name place e rank
  pub not_higher : All (RanksNoHigher (RanksSetting name place) rank) before

-- no entry that Git takes after this index has an empty value, which clears the accumulated ones
abbrev pub IsNotCleared : List ℕ → Option NormalPlace → List ConfigEntry → ℕ → Type 0
IsNotCleared name place entries i = (j : ℕ) (e : ConfigEntry)
    → i < j → IsTakenAt name place entries j e → ¬ (e.value ≡ Some [])

-- the value of the entry at this index is one of the accumulated ones: Git takes the entry, its value isn't empty,
-- and no later entry clears it
pub record IsUsedAt (name : List ℕ) (place : Option NormalPlace) (entries : List ConfigEntry) (i : ℕ) : Type 0 where
  pub entry : ConfigEntry
  pub taken : IsTakenAt name place entries i entry
  pub not_empty : ¬ (entry.value ≡ Some [])
  pub not_cleared : IsNotCleared name place entries i

-- ---- results

-- each entry that Git takes has a value, and these are the indices of those that it uses, each once and in their
-- order
pub record AreUsed (name : List ℕ) (place : Option NormalPlace) (entries : List ConfigEntry) (found : List ℕ) : Type 0 where
  pub values : (i : ℕ) (e : ConfigEntry) → IsTakenAt name place entries i e → ¬ (e.value ≡ None)
  pub in_order : IsStrictlyIncreasing found
  pub used : (i : ℕ) → Contains found i ↔ IsUsedAt name place entries i

-- this is the index of the best entry alone, or there is none
abbrev pub IsBestAlone : List ℕ → Option NormalPlace → List ConfigEntry → List ℕ → Type 0
IsBestAlone name place entries found = (best : Option ℕ)
    × IsBest (RanksSetting name place) entries best × (found ≡ option_to_list best)

-- these are the indices of the entries whose values Git uses: all that count for a list, otherwise the best
abbrev pub AreSettings : List ℕ → Option NormalPlace → List ConfigEntry → List ℕ → Type 0
AreSettings name place entries found = (IsListName name × AreUsed name place entries found)
    ⊎ ((¬ IsListName name) × IsBestAlone name place entries found)

-- the first entry that Git takes and that has no value begins at this byte
pub record FirstTakenLacks (name : List ℕ) (place : Option NormalPlace) (entries : List ConfigEntry) (at : ℕ) : Type 0 where
  pub index : ℕ
  pub entry : ConfigEntry
  pub taken : IsTakenAt name place entries index entry
  pub lacks : entry.value ≡ None
  pub begins : at ≡ entry.at
  pub first : (j : ℕ) (e : ConfigEntry) → j < index → IsTakenAt name place entries j e → ¬ (e.value ≡ None)

-- the buffer is too short for the URL of an entry, or an entry of a list has no value; `Memory` says nothing about
-- the entries
abbrev pub RefusesSettings : List ℕ → Option NormalPlace → ℕ → List ConfigEntry → SettingsError → Type 0
RefusesSettings name place buffer_len entries Memory = Unit {0}
RefusesSettings name place buffer_len entries NoRoom = ¬ All (BufferSuffices (codes "http") name place buffer_len) entries
RefusesSettings name place buffer_len entries (NoValue at) = IsListName name
    × FirstTakenLacks name place entries at

-- the buffer suffices for the URL of each of these entries, and each entry of a list that Git takes has a value
pub record AreFlawless (name : List ℕ) (place : Option NormalPlace) (buffer_len : ℕ) (entries : List ConfigEntry) : Type 0 where
  pub enough : All (BufferSuffices (codes "http") name place buffer_len) entries
  pub values : IsListName name → (i : ℕ) (e : ConfigEntry) → IsTakenAt name place entries i e → ¬ (e.value ≡ None)

-- the entry has a value, and doesn't clear those before it
abbrev pub HasUsedValue : ConfigEntry → Type 0
HasUsedValue e = (¬ (e.value ≡ None)) × ¬ (e.value ≡ Some [])

-- the error of an entry that follows these: the buffer is too short for its URL; or Git takes it for a list, and it
-- has no value; or memory is refused for its index, which is needed because Git takes it and, for a list, uses its
-- value
abbrev pub EntryFails : List ℕ → Option NormalPlace → ℕ → List ConfigEntry → ConfigEntry → SettingsError → Type 0
EntryFails name place buffer_len before e NoRoom = ¬ BufferSuffices (codes "http") name place buffer_len e
EntryFails name place buffer_len before e (NoValue at) = BufferSuffices (codes "http") name place buffer_len e × IsListName name
    × IsTakenAt name place (before ++ e ∷ []) (length before) e × (e.value ≡ None) × (at ≡ e.at)
EntryFails name place buffer_len before e Memory = BufferSuffices (codes "http") name place buffer_len e
    × IsTakenAt name place (before ++ e ∷ []) (length before) e × (IsListName name → HasUsedValue e)

-- the error is that of the first entry that has one: those before it have none
pub record IsOfFirst (name : List ℕ) (place : Option NormalPlace) (buffer_len : ℕ) (entries : List ConfigEntry) (error : SettingsError) : Type 0 where
  pub before : List ConfigEntry
  pub entry : ConfigEntry
  pub others : List ConfigEntry
  pub joined : entries ≡ before ++ entry ∷ others
  pub flawless : AreFlawless name place buffer_len before
  pub fails : EntryFails name place buffer_len before entry error

-- ---- one entry more

-- the entry at this index is the best so far
abbrev pub IsBestIndex : Option (ℕ × Rank) → ℕ → Type 0
IsBestIndex best i = (rank : Rank) × (best ≡ Some (i, rank))

-- the list before and after the value of an entry at this index
abbrev pub IsAdded : Option (List ℕ) → ℕ → List ℕ → List ℕ → Type 0
IsAdded None i old new = ⊥
IsAdded (Some []) i old new = new ≡ []
IsAdded (Some (b ∷ bs)) i old new = new ≡ old ++ i ∷ []

-- an entry with a value is added, or memory is refused for it, and one without a value is refused
abbrev pub AddsValue : ConfigEntry → ℕ → List ℕ → List ℕ → Result (Unit {0}) SettingsError → Type 0
AddsValue e i old new (Ok done) = IsAdded e.value i old new
AddsValue e i old new (Err Memory) = HasUsedValue e
AddsValue e i old new (Err NoRoom) = ⊥
AddsValue e i old new (Err (NoValue at)) = (e.value ≡ None) × (at ≡ e.at)

-- an entry that is the best so far is added or refused by its value; any other changes nothing
abbrev pub AddsBest : Option (ℕ × Rank) → ConfigEntry → ℕ → List ℕ → List ℕ → Result (Unit {0}) SettingsError
    → Type 0
AddsBest best e i old new r = (IsBestIndex best i × AddsValue e i old new r)
    ⊎ ((¬ IsBestIndex best i) × (new ≡ old) × (r ≡ Ok tt))

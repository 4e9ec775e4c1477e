-- The settings that Git's credential code uses for a request: the helpers, the user, and whether helpers get the
-- path of an HTTP URL.
use Rattle.std.specs.Prelude.{◌≡◌, ℕ, Bool, true, false, ◌<◌, ◌↔◌, ◌⊎◌, List, [], codes, Contains, IsTrue, Option, Some, None, option_and_then}
use Rattle.std.specs.List.Sorted.{IsStrictlyIncreasing}
use Rattle.git_reads.specs.Credentials.{CredentialReading}
use Rattle.git_rules.specs.declared.credentials.CredentialsError.{CredentialsError}
use Rattle.git_rules.specs.declared.credentials.CredentialsError.TheVariants.{Memory, NoBoolean, NoValue}
use Rattle.git_rules.specs.Booleans.{boolean_of}
use Rattle.git_rules.specs.Config.{ConfigEntry, has_name}
use Rattle.git_rules.specs.CredentialEntries.{AppliesAt, CredentialUse, SetsAt, UserThrough, user_after}
use Rattle.git_rules.specs.Settings.{IsAdded}

-- ---- helpers

-- no `helper` that applies after this index is empty; an empty one clears those before it
abbrev pub IsKeptFrom : CredentialReading → List ConfigEntry → ℕ → Type 0
IsKeptFrom r entries i = (j : ℕ) (e : ConfigEntry) → i < j → SetsAt (codes "helper") r entries j e
    → ¬ (e.value ≡ Some [])

-- the entry at this index is a helper that Git calls: it applies, isn't empty, and no later entry clears it
pub record IsHelperAt (r : CredentialReading) (entries : List ConfigEntry) (i : ℕ) : Type 0 where
  pub entry : ConfigEntry
  pub sets : SetsAt (codes "helper") r entries i entry
  pub not_empty : ¬ (entry.value ≡ Some [])
  pub kept : IsKeptFrom r entries i

-- ---- the path of HTTP

-- the boolean value of an entry
abbrev pub boolean_value : ConfigEntry → Option Bool
boolean_value e = option_and_then boolean_of e.value

-- the last `useHttpPath` that applies is true
pub record UsesPath (r : CredentialReading) (entries : List ConfigEntry) : Type 0 where
  pub index : ℕ
  pub entry : ConfigEntry
  pub sets : SetsAt (codes "usehttppath") r entries index entry
  pub is_true : boolean_value entry ≡ Some true
  pub last : (j : ℕ) (e : ConfigEntry) → index < j → ¬ SetsAt (codes "usehttppath") r entries j e

-- ---- errors

-- Git stops at an entry that applies: it has no value, or is a `useHttpPath` whose value isn't boolean
abbrev pub StopsAt : ConfigEntry → CredentialsError → Type 0
StopsAt e Memory = ⊥
StopsAt e (NoValue at) = (e.value ≡ None) × (at ≡ e.at)
StopsAt e (NoBoolean at) = (has_name (codes "usehttppath") e ≡ true) × (¬ (e.value ≡ None))
    × (boolean_value e ≡ None) × (at ≡ e.at)

-- Git stops at the entry at this index, and at no entry before it
pub record StopsFirst (r : CredentialReading) (entries : List ConfigEntry)
    (error : CredentialsError) : Type 0 where
  pub index : ℕ
  pub entry : ConfigEntry
  pub applies : AppliesAt r entries index entry
  pub stops : StopsAt entry error
  pub first : (j : ℕ) (e : ConfigEntry) (other : CredentialsError) → j < index → AppliesAt r entries j e
      → ¬ StopsAt e other

-- ---- results

-- Git stops at no entry, and these are its settings: the helpers in their order, each once, the user, and whether
-- helpers get the path
pub record AreCredentials (r : CredentialReading) (entries : List ConfigEntry)
    (used : CredentialUse) : Type 0 where
  pub sound : (i : ℕ) (e : ConfigEntry) (error : CredentialsError) → AppliesAt r entries i e
      → ¬ StopsAt e error
  pub in_order : IsStrictlyIncreasing used.helpers
  pub asked : (i : ℕ) → Contains used.helpers i ↔ IsHelperAt r entries i
  pub through : UserThrough r entries r.user used.user
  pub path : IsTrue used.use_http_path ↔ UsesPath r entries

-- Git stops at an entry for this reason, and at no entry before it; `Memory` says nothing about the entries
abbrev pub RefusesCredentials : CredentialReading → List ConfigEntry → CredentialsError → Type 0
RefusesCredentials r entries Memory = Unit {0}
RefusesCredentials r entries error = StopsFirst r entries error

-- ---- one entry that applies

-- the helpers before and after an entry
abbrev pub AddsHelper : ConfigEntry → ℕ → List ℕ → List ℕ → Type 0
AddsHelper e i old new = ((has_name (codes "helper") e ≡ true) × IsAdded e.value i old new)
    ⊎ ((has_name (codes "helper") e ≡ false) × (new ≡ old))

-- the use of the path before and after an entry
abbrev pub SetsPath : ConfigEntry → Bool → Bool → Type 0
SetsPath e old new = ((has_name (codes "usehttppath") e ≡ true) × (boolean_value e ≡ Some new))
    ⊎ ((has_name (codes "usehttppath") e ≡ false) × (new ≡ old))

-- all settings before and after an entry
pub record Takes (own : Option (List ℕ)) (e : ConfigEntry) (i : ℕ) (old new : CredentialUse) : Type 0 where
  pub value : ¬ (e.value ≡ None)
  pub helpers : AddsHelper e i old.helpers new.helpers
  pub user : new.user ≡ user_after own e old.user
  pub path : SetsPath e old.use_http_path new.use_http_path

-- Git stops at the entry, or an allocation failed, which says nothing about the entry
abbrev pub Refuses : ConfigEntry → CredentialsError → Type 0
Refuses e Memory = Unit {0}
Refuses e error = StopsAt e error

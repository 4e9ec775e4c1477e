-- The entries of a configuration that apply to a place, such as `http.<url>.proxy`, and the best of them. Without a
-- place only those for all places apply.
use Rattle.std.specs.Prelude.{◌≡◌, ℕ, true, List, ◌∷◌, ◌++◌, ◌+◌, ◌*◌, ◌<◌, ◌≤◌, length, All, Option, Some, None, IfSome, Result, Ok, Err}
use Rattle.git_rules.specs.declared.normal.NormalError.{NormalError}
use Rattle.git_rules.specs.declared.normal.NormalError.TheVariants.{NoRoom}
use Rattle.git_rules.specs.declared.pattern.Rank.{Rank}
use Rattle.git_rules.specs.Config.{ConfigEntry, sets}
use Rattle.git_rules.specs.Normal.{NormalPlace, IsNormalOf}
use Rattle.git_rules.specs.Patterns.{HasRank, IsBest, RanksFor}

-- the rank of an entry for all places, below that of each pattern
abbrev pub lowest_rank : Rank
lowest_rank = record { host = 0; path = 0; user = 0 }

-- the rank for a subsection: the lowest without a subsection; for a URL its rank, if it has a normal form that
-- matches the place
abbrev pub RanksSubsection : Option NormalPlace → Option (List ℕ) → Rank → Type 0
RanksSubsection place None rank = rank ≡ lowest_rank
RanksSubsection None (Some url) rank = ⊥
RanksSubsection (Some place) (Some url) rank = (pattern : NormalPlace) × IsNormalOf true url pattern
    × RanksFor place pattern rank

-- the entry sets the variable for the place, with this rank
abbrev pub RanksEntry : List ℕ → List ℕ → Option NormalPlace → ConfigEntry → Rank → Type 0
RanksEntry section name place e rank = (sets section name e ≡ true)
    × RanksSubsection place e.subsection rank

-- a buffer of this length suffices for the URL of the entry, if it sets the variable; without a place no URL is
-- read, so any buffer suffices
abbrev pub BufferSuffices : List ℕ → List ℕ → Option NormalPlace → ℕ → ConfigEntry → Type 0
BufferSuffices section name None buffer_len e = Unit {0}
BufferSuffices section name (Some place) buffer_len e = (sets section name e ≡ true)
    → IfSome e.subsection (λ url. 3 * length url + 1 ≤ buffer_len)

-- the result is the rank of an entry, `None` if it has none, or an error if the buffer is too short for it
abbrev pub RanksIn : List ℕ → List ℕ → Option NormalPlace → ℕ → ConfigEntry
    → Result (Option Rank) NormalError → Type 0
RanksIn section name place buffer_len e (Ok rank) = HasRank (RanksEntry section name place) e rank
RanksIn section name place buffer_len e (Err error) = (error ≡ NoRoom) × ¬ BufferSuffices section name place buffer_len e

-- the result is the index of the best entry, `None` if no entry has a rank, or an error if the buffer is too short
-- for one of them
abbrev pub IsBestIn : List ℕ → List ℕ → Option NormalPlace → ℕ → List ConfigEntry
    → Result (Option ℕ) NormalError → Type 0
IsBestIn section name place buffer_len entries (Ok best) = IsBest (RanksEntry section name place) entries best
IsBestIn section name place buffer_len entries (Err error) = (error ≡ NoRoom)
    × ¬ All (BufferSuffices section name place buffer_len) entries

-- the buffer is too short for an entry, and suffices for those before it
pub record LacksBufferFirst (section name : List ℕ) (place : Option NormalPlace) (buffer_len : ℕ) (entries : List ConfigEntry) : Type 0 where
  pub before : List ConfigEntry
  pub entry : ConfigEntry
  pub others : List ConfigEntry
  pub joined : entries ≡ before ++ entry ∷ others
  pub enough : All (BufferSuffices section name place buffer_len) before
  pub short : ¬ BufferSuffices section name place buffer_len entry

-- the rank of a URL for a place, or an error if the buffer is too short for it
abbrev pub RanksUrlIn : NormalPlace → ℕ → List ℕ → Result (Option Rank) NormalError → Type 0
RanksUrlIn place buffer_len url (Ok rank) = HasRank (RanksSubsection (Some place)) (Some url) rank
RanksUrlIn place buffer_len url (Err error) = (error ≡ NoRoom) × (buffer_len < 3 * length url + 1)

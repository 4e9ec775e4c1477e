-- The law on the settings for a place, and for a text without one.
use Rattle.std.specs.Prelude.{◌≡◌, ℕ, ◌≤◌, List, Option, Some, None}
use Rattle.git_rules.specs.Config.{ConfigEntry}
use Rattle.git_rules.specs.Normal.{NormalPlace}
use Rattle.git_rules.specs.Patterns.{IsBest}
use Rattle.git_rules.specs.Settings.{AreSettings, IsTakenAt, RanksSetting}

-- a name, an optional place, and entries determine the result
abbrev pub OneAnswer : Type 0
OneAnswer = (name : List ℕ) (place : Option NormalPlace) (entries : List ConfigEntry) (a b : List ℕ)
    → AreSettings name place entries a → AreSettings name place entries b → a ≡ b

-- Git takes the entry at this index, and no later one
pub record IsLastTaken (name : List ℕ) (place : Option NormalPlace) (entries : List ConfigEntry) (i : ℕ) : Type 0 where
  pub entry : ConfigEntry
  pub taken : IsTakenAt name place entries i entry
  pub last : (j : ℕ) (e : ConfigEntry) → IsTakenAt name place entries j e → j ≤ i

-- the best entry is the last one that Git takes: for a name with one value, Git uses only that entry
abbrev pub BestIsLastTaken : Type 0
BestIsLastTaken = (name : List ℕ) (place : Option NormalPlace) (entries : List ConfigEntry) (i : ℕ)
    → IsBest (RanksSetting name place) entries (Some i) → IsLastTaken name place entries i

-- if no entry is the best, Git takes no entry
abbrev pub NoneTakenWithoutBest : Type 0
NoneTakenWithoutBest = (name : List ℕ) (place : Option NormalPlace) (entries : List ConfigEntry) (i : ℕ) (e : ConfigEntry)
    → IsBest (RanksSetting name place) entries None → ¬ IsTakenAt name place entries i e

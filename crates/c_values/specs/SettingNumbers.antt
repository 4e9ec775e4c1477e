-- The entries of `http.*` whose values Git uses for a URL, for C: their indices.
use Rattle.std.specs.Prelude.{◌≡◌, ℕ, ◌⊎◌, false, List, [], ◌∷◌, length, max, Option, Some, None}
use Rattle.git_rules.specs.Config.{ConfigEntry}
use Rattle.git_rules.specs.Normal.{NormalPlace, IsNormalOf}
use Rattle.git_rules.specs.NormalFlaws.{HasFlaw}
use Rattle.git_rules.specs.Settings.{AreSettings, FirstTakenLacks, IsListName}
use Rattle.git_rules.specs.declared.normal.NormalError.{NormalError}
use Rattle.git_rules.specs.declared.normal.NormalError.TheVariants as flaw
use Rattle.c_values.specs.declared.rules.settings.SettingNumbers.{SettingNumbers}
use Rattle.c_values.specs.declared.rules.stops.Stop.{Stop}
use Rattle.c_values.specs.Output.{Puts, or_nothing}
use Rattle.c_values.specs.Stops.{StopsAt, no_stop, no_value}

-- the number of the reason why a URL has no normal form: its place in the order of the header
abbrev pub abnormal_number : NormalError → ℕ
abnormal_number flaw.NoRoom = 0
abnormal_number flaw.NoUrl = 1
abnormal_number flaw.BrokenEscape = 2
abnormal_number flaw.NoHost = 3
abnormal_number flaw.BadHost = 4
abnormal_number flaw.BadPort = 5
abnormal_number flaw.AboveRoot = 6

-- the length of the longest subsection, or 0 if there is none
abbrev pub longest_subsection : List ConfigEntry → ℕ
longest_subsection [] = 0
longest_subsection (e ∷ entries) = max (length (or_nothing e.subsection)) (longest_subsection entries)

-- indices are copied
abbrev pub PutsIndices : List ℕ → ℕ → SettingNumbers → List ℕ → List ℕ → ℕ → Type 0
PutsIndices found number built old new code =
    (built ≡ record { why = number; settings = length found }) × Puts found old new code

-- the settings for a place, or for none, are reported, or the first entry at which Git stops
abbrev pub ReportsFor : List ConfigEntry → List ℕ → Option NormalPlace → ℕ → SettingNumbers → List ℕ → List ℕ → Stop → ℕ → Type 0
ReportsFor entries name place number built old new stop code =
    ((at : ℕ) × IsListName name × FirstTakenLacks name place entries at × StopsAt no_value at stop code)
    ⊎ ((found : List ℕ) × AreSettings name place entries found × (stop ≡ no_stop)
    × PutsIndices found number built old new code)

-- the text has this normal form, or none for the reason of this number, which isn't 0
abbrev pub HasForm : List ℕ → Option NormalPlace → ℕ → Type 0
HasForm text (Some n) number = IsNormalOf false text n × (number ≡ 0)
HasForm text None number = (why : NormalError) × HasFlaw false text why
    × ((n : NormalPlace) → ¬ IsNormalOf false text n) × (number ≡ abnormal_number why)

-- the settings for a URL are reported, by its normal form if it has one
abbrev pub ReportsSettings : List ConfigEntry → List ℕ → List ℕ → SettingNumbers → List ℕ → List ℕ → Stop → ℕ → Type 0
ReportsSettings entries name text built old new stop code = (place : Option NormalPlace) × (number : ℕ)
    × HasForm text place number × ReportsFor entries name place number built old new stop code

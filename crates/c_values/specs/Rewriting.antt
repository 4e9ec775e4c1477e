-- A rewritten text as C gets it.
use Rattle.std.specs.Prelude.{◌≡◌, ℕ, ◌⊎◌, List, length}
use Rattle.git_rules.specs.Config.{ConfigEntry}
use Rattle.git_rules.specs.Rewrites.{Outcome, outcome_text}
use Rattle.git_rules.specs.RewriteEntries.{AllHaveValues, FirstLacks}
use Rattle.c_values.specs.declared.rules.rewriting.RewriteNumbers.{RewriteNumbers}
use Rattle.c_values.specs.declared.rules.stops.Stop.{Stop}
use Rattle.c_values.specs.Output.{Puts, is_there, or_nothing}
use Rattle.c_values.specs.Stops.{StopsAt, no_stop, no_value}

-- the numbers of a rewritten text
abbrev pub outcome_numbers : Outcome → RewriteNumbers
outcome_numbers o = record {
  is_rewritten = is_there o.base;
  base = length (or_nothing o.base);
  len = length (outcome_text o);
}

-- a rewritten text is reported
abbrev pub ReportsOutcome : Outcome → RewriteNumbers → List ℕ → List ℕ → ℕ → Type 0
ReportsOutcome o built old new code = (built ≡ outcome_numbers o) × Puts (outcome_text o) old new code

-- Git stops at the first entry of rewriting that lacks a value, and that entry is reported; or it stops at none, and
-- this is true
abbrev pub FillsRules : List ConfigEntry → Stop → ℕ → Type 0 → Type 0
FillsRules entries stop code holds =
    ((at : ℕ) × FirstLacks entries at × StopsAt no_value at stop code) ⊎ (AllHaveValues entries × holds)

-- a text is rewritten by the rules of the entries and reported
abbrev pub ReportsRewriting : List ConfigEntry → (Outcome → Type 0) → RewriteNumbers → List ℕ → List ℕ → Stop → ℕ → Type 0
ReportsRewriting entries IsOutcome built old new stop code = FillsRules entries stop code
    ((o : Outcome) × IsOutcome o × (stop ≡ no_stop) × ReportsOutcome o built old new code)

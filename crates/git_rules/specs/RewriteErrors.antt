-- The results of filling `Rewrites`.
use Rattle.std.specs.Prelude.{◌≡◌, ℕ, List, Some, None, Result, Ok, Err}
use Rattle.std.specs.Borrow.{Bor}
use Rattle.git_rules.specs.Config.{ConfigEntry}
use Rattle.git_rules.specs.Rewrites.{Rules}
use Rattle.git_rules.specs.RewriteEntries.{AllHaveValues, FirstLacks, HasRule, LacksValue, ReachesRule, rules_of, with_entry}
use Rattle.git_rules.specs.declared.rewrite.RewriteError.{RewriteError}
use Rattle.git_rules.specs.declared.rewrite.RewriteError.TheVariants.{Memory, NoValue}

-- the value of an entry, or an error if it has none
abbrev pub HasFront : ConfigEntry → Result (Bor (List ℕ)) RewriteError → Type 0
HasFront e (Ok front) = e.value ≡ Some front.now
HasFront e (Err error) = (e.value ≡ None) × (error ≡ NoValue e.at)

-- the rule of the entry, if it is a rule, is appended; if it lacks a value, or an allocation failed for a rule with a
-- value, nothing changes
abbrev pub AddsEntry : ConfigEntry → Rules → Rules → Result (Unit {0}) RewriteError → Type 0
AddsEntry e old new (Ok _) = (¬ LacksValue e) × (new ≡ with_entry old e)
AddsEntry e old new (Err (NoValue at)) = LacksValue e × (at ≡ e.at) × (new ≡ old)
AddsEntry e old new (Err Memory) = HasRule e × (new ≡ old)

-- the rules of the entries, if each entry of a rule has a value; otherwise the byte offset of the first one without;
-- or an allocation failed for a rule before it
abbrev pub IsFilled : List ConfigEntry → Result Rules RewriteError → Type 0
IsFilled entries (Ok rules) = AllHaveValues entries × (rules ≡ rules_of entries)
IsFilled entries (Err (NoValue at)) = FirstLacks entries at
IsFilled entries (Err Memory) = ReachesRule entries

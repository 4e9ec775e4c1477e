-- None of the entries after those that are left sets the key.
use Rattle.std.proofs.Common.{◌≡◌, ◌++◌, List, All, length}
use Rattle.std.specs.Prelude.{option_map}
use Rattle.git_rules.specs.Config.{ConfigEntry}
use Rattle.git_rules.specs.Protocols.{SetsAllow}
use Rattle.git_rules.proofs.protocols.last_allow.Given as goal

abbrev pub invariant-loop-front : goal.invariant-loop-front
invariant-loop-front l = (after : List ConfigEntry) × (l.entries ≡ l.front ++ after)
    × All (λ e. ¬ SetsAllow (option_map (λ t. t.now) l.name) e) after

abbrev pub decreases-loop-front : goal.decreases-loop-front
decreases-loop-front l = length l.front

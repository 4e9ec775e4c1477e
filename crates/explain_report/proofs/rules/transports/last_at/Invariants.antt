-- None of the entries after those that are left begins at the place.
use Rattle.std.proofs.Common.{◌≡◌, ◌++◌, List, All, length}
use Rattle.git_rules.specs.Config.{ConfigEntry}
use Rattle.explain_report.proofs.rules.transports.last_at.Given as goal

abbrev pub invariant-loop-front : goal.invariant-loop-front
invariant-loop-front l = (after : List ConfigEntry) × (l.entries ≡ l.front ++ after)
    × All (λ e. ¬ (e.at ≡ l.place)) after

abbrev pub decreases-loop-front : goal.decreases-loop-front
decreases-loop-front l = length l.front

-- The rest of both hosts matches if they do.
use Rattle.std.proofs.Common.{◌↔◌, length}
use Rattle.git_rules.specs.Patterns.{MatchesHost}
use Rattle.git_rules.proofs.pattern.matches_host.Given as goal

abbrev pub invariant-loop-label : goal.invariant-loop-label
invariant-loop-label l = MatchesHost l.wanted l.rest ↔ MatchesHost l.pattern l.host

abbrev pub decreases-loop-label : goal.decreases-loop-label
decreases-loop-label l = length l.wanted

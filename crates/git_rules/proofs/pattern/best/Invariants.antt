-- The best of the patterns so far.
use Rattle.std.proofs.Common.{take}
use Rattle.git_rules.specs.Patterns.{RanksFor}
use Rattle.git_rules.proofs.Matched.RankLemmas.{IsBestSoFar}
use Rattle.git_rules.proofs.pattern.best.Given as goal

abbrev pub invariant-loop-i : goal.invariant-loop-i
invariant-loop-i l = IsBestSoFar (RanksFor l.place) (take l.i l.patterns) l.best

-- The best of the entries so far, for which the buffer sufficed.
use Rattle.std.proofs.Common.{length, take, option_copied, All}
use Rattle.git_rules.specs.PatternEntries.{BufferSuffices, RanksEntry}
use Rattle.git_rules.proofs.Matched.RankLemmas.{IsBestSoFar}
use Rattle.git_rules.proofs.pattern.entries.best_in.Given as goal

abbrev pub invariant-loop-i : goal.invariant-loop-i
invariant-loop-i l = record {
  best : IsBestSoFar (RanksEntry l.section l.name (option_copied l.place)) (take l.i l.entries) l.best;
  enough : All (BufferSuffices l.section l.name (option_copied l.place) (length l.fn.buffer)) (take l.i l.entries);
}

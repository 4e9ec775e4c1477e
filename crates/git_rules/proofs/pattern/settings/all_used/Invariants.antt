-- The entries found so far, for which the buffer sufficed.
use Rattle.std.proofs.Common.{length, take, option_copied, All, codes}
use Rattle.git_rules.specs.PatternEntries.{BufferSuffices}
use Rattle.git_rules.proofs.Settled.UsedLemmas.{ListedSoFar}
use Rattle.git_rules.proofs.pattern.settings.all_used.Given as goal

abbrev pub invariant-loop-i : goal.invariant-loop-i
invariant-loop-i l = record {
  listed : ListedSoFar l.name (option_copied l.place) (take l.i l.entries) l.best l.found.items;
  enough : All (BufferSuffices (codes "http") l.name (option_copied l.place) (length l.fn.buffer)) (take l.i l.entries);
}

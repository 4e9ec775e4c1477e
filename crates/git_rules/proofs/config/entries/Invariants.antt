use Rattle.std.proofs.Common.{◌≡◌}
use Rattle.git_rules.specs.ConfigItems.{entries_of, start}
use Rattle.git_rules.proofs.Entries.ItemLemmas.{Continues}
use Rattle.git_rules.proofs.config.entries.Given as goal

abbrev pub invariant-loop-item : goal.invariant-loop-item
invariant-loop-item l = record {
  so_far : Continues (start l.fn.text) l.yielded l.item-iterator;
  kept : l.found.items ≡ entries_of l.yielded;
}

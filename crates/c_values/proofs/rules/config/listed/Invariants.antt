-- The entries read so far are those that were kept.
use Rattle.std.proofs.Common.{◌≡◌, map, Ok}
use Rattle.git_rules.specs.ConfigItems.{start}
use Rattle.c_values.specs.EntryNumbers.{ReadsUpTo}
use Rattle.c_values.proofs.rules.config.listed.Given as goal

abbrev pub invariant-loop-item : goal.invariant-loop-item
invariant-loop-item l = record {
  read : ReadsUpTo (start l.fn.text) l.yielded l.item-iterator;
  kept : l.yielded ≡ map Ok l.found.items;
}

use Rattle.std.proofs.Common.{◌≡◌}
use Rattle.std.specs.List.{All}
use Rattle.git_rules.specs.ConfigItems.{IsEntry, start}
use Rattle.git_rules.proofs.Entries.ItemLemmas.{Continues}
use Rattle.git_rules.proofs.Entries.ListingLemmas.{Splits}
use Rattle.git_rules.proofs.config.is_listing.Given as goal

abbrev pub invariant-loop-item : goal.invariant-loop-item
invariant-loop-item l = record {
  so_far : Continues (start l.fn.text) l.yielded l.item-iterator;
  splits : Splits (start l.fn.text) l.yielded l.item-iterator;
  entries : All IsEntry l.yielded;
}

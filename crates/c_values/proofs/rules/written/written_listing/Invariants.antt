-- The entries so far were written.
use Rattle.std.proofs.Common.{◌≡◌, map, take}
use Rattle.std.specs.List.{flat_map}
use Rattle.c_values.specs.EntryNumbers.{entry_numbers, entry_texts}
use Rattle.c_values.proofs.rules.written.written_listing.Given as goal

abbrev pub invariant-loop-entry : goal.invariant-loop-entry
invariant-loop-entry l = record {
  texts : map (λ t. t.now) l.written.texts.items ≡ flat_map entry_texts (take l.entry-index l.entries);
  numbers : l.written.numbers.items ≡ flat_map (entry_numbers 0) (take l.entry-index l.entries);
}

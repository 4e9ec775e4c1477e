-- The entries so far were written.
use Rattle.std.proofs.Common.{◌≡◌, map, take}
use Rattle.std.specs.List.{flat_map}
use Rattle.c_values.specs.EntryNumbers.{file_numbers, file_texts}
use Rattle.c_values.proofs.rules.written.written_file.Given as goal

abbrev pub invariant-loop-found : goal.invariant-loop-found
invariant-loop-found l = record {
  texts : map (λ t. t.now) l.written.texts.items ≡ flat_map file_texts (take l.found-index l.entries);
  numbers : l.written.numbers.items ≡ flat_map file_numbers (take l.found-index l.entries);
}

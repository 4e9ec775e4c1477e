use Rattle.std.proofs.Common.{◌≡◌, ℕ, List, bytes_eq, map, take}
use Rattle.std.specs.Prelude.{filter_map}
use Rattle.std.specs.List.{list_any}
use Rattle.git_modules.specs.Submodules.{names_of, taken_name}
use Rattle.git_modules.specs.SubmoduleInternal.{is_noted}
use Rattle.git_modules.proofs.submodules.names_of.Given as goal

abbrev pub invariant-loop-entry : goal.invariant-loop-entry
invariant-loop-entry l = record {
  names : map (λ t. t.now) l.found.items ≡ names_of (take l.entry-index l.entries);
  seen : (q : List ℕ) → is_noted l.seen q ≡ list_any (λ o. bytes_eq o q) (filter_map taken_name (take l.entry-index l.entries));
}

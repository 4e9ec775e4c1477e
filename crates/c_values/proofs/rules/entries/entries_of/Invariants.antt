-- The entries so far were copied.
use Rattle.std.proofs.Common.{◌≡◌, take}
use Rattle.c_values.specs.Entries.{entries_passed}
use Rattle.c_values.proofs.rules.entries.entries_of.Given as goal

abbrev pub invariant-loop-entry : goal.invariant-loop-entry
invariant-loop-entry l = l.found.items ≡ entries_passed (take l.entry-index l.passed)

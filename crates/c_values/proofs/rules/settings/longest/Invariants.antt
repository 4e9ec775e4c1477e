-- The longest subsection of the entries so far.
use Rattle.std.proofs.Common.{◌≡◌, take}
use Rattle.c_values.specs.SettingNumbers.{longest_subsection}
use Rattle.c_values.proofs.rules.settings.longest.Given as goal

abbrev pub invariant-loop-entry : goal.invariant-loop-entry
invariant-loop-entry l = l.longest ≡ longest_subsection (take l.entry-index l.entries)

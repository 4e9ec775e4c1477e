-- The entries of the section, of those so far.
use Rattle.std.proofs.Common.{◌≡◌, take}
use Rattle.git_rules.specs.Config.{of_section}
use Rattle.git_rules.proofs.config.entries_of.Given as goal

abbrev pub invariant-loop-entry : goal.invariant-loop-entry
invariant-loop-entry l = l.found.items ≡ of_section l.section (take l.entry-index l.entries)

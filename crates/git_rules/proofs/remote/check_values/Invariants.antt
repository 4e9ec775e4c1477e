use Rattle.std.proofs.Common.{take}
use Rattle.git_rules.specs.Remotes.{HaveValues}
use Rattle.git_rules.proofs.remote.check_values.Given as goal

abbrev pub invariant-loop-entry : goal.invariant-loop-entry
invariant-loop-entry l = HaveValues (take l.entry-index l.entries)

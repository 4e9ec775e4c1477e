use Rattle.std.proofs.Common.{◌≡◌, [], take}
use Rattle.git_rules.specs.Remotes.{values_of}
use Rattle.git_rules.proofs.remote.first_value.Given as goal

abbrev pub invariant-loop-entry : goal.invariant-loop-entry
invariant-loop-entry l = values_of l.name l.key (take l.entry-index l.entries) ≡ []

use Rattle.std.proofs.Common.{take}
use Rattle.git_rules.specs.Remotes.{AreRewritten, values_of}
use Rattle.git_rules.proofs.remote.rewritten_values.Given as goal

abbrev pub invariant-loop-entry : goal.invariant-loop-entry
invariant-loop-entry l =
    AreRewritten l.rules.fetching (values_of l.name l.key (take l.entry-index l.entries)) l.found.items

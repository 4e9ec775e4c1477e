use Rattle.std.proofs.Common.{take}
use Rattle.git_rules.proofs.Rules.EntryLemmas.{FilledSoFar}
use Rattle.git_rules.proofs.rewrite.Rewrites.from_entries.Given as goal

abbrev pub invariant-loop-entry : goal.invariant-loop-entry
invariant-loop-entry l = FilledSoFar (take l.entry-index l.entries) l.rules

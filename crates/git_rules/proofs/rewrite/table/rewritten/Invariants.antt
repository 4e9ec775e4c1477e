use Rattle.std.proofs.Common.{List}
use Rattle.git_rules.specs.Rewrites.{Rule}
use Rattle.git_rules.specs.RuleTable.{NotesFronts, NotesLengths}
use Rattle.git_rules.proofs.Rules.WinLemmas.{IsRewrittenSoFar}
use Rattle.git_rules.proofs.rewrite.table.rewritten.Given as goal

abbrev pub invariant-loop-length : goal.invariant-loop-length
invariant-loop-length l =
    (rules : List Rule) → NotesFronts rules l.fronts → NotesLengths rules l.lengths → IsRewrittenSoFar rules l.text l.length-iterator l.outcome

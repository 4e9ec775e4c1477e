-- The rest is as sound as the text, and has a high escape if that has one.
use Rattle.std.proofs.Common.{length}
use Rattle.git_syntax.specs.Internal.Runs.{PassesRun}
use Rattle.git_syntax.proofs.runs.past_run.Given as goal

abbrev pub invariant-loop-high : goal.invariant-loop-high
invariant-loop-high l = PassesRun l.text l.low l.rest

abbrev pub decreases-loop-high : goal.decreases-loop-high
decreases-loop-high l = length l.rest

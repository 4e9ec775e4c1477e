use Rattle.std.proofs.Common.{length}
use Rattle.git_location.proofs.LineAnswers.LineLemmas.{Measured}
use Rattle.git_location.proofs.lines.longest_line.Given as goal

abbrev pub invariant-loop-line : goal.invariant-loop-line
invariant-loop-line l = Measured l.fn.text l.rest l.longest

abbrev pub decreases-loop-line : goal.decreases-loop-line
decreases-loop-line l = length l.rest

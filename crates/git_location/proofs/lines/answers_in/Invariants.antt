use Rattle.std.proofs.Common.{length}
use Rattle.git_location.specs.Answers.{HasLinesWithin}
use Rattle.git_location.proofs.LineAnswers.LineLemmas.{Done}
use Rattle.git_location.proofs.lines.answers_in.Given as goal

abbrev pub invariant-loop-line : goal.invariant-loop-line
invariant-loop-line l = record {
  done : Done l.fn.text l.rest l.out.items l.all;
  line_buffer : HasLinesWithin (length l.line_buffer) l.rest;
}

abbrev pub decreases-loop-line : goal.decreases-loop-line
decreases-loop-line l = length l.rest

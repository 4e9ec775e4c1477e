-- The text within the length of the longest line: the lines in front of the rest, and then the rest.
use Rattle.std.proofs.Common.{sym, subst, arith}
use Rattle.git_location.proofs.LineAnswers.LineLemmas.{Measured, measured_step, measured_all}
use Rattle.git_location.proofs.lines.longest_line.Goals as goal

pub loop-line-preserved : goal.loop-line-preserved
loop-line-preserved c =
    subst (Measured c.args.text.now c.in-Some.suffix.now) (sym c.max-longest.ensures) (measured_step c.args.text.now c.loop-line.rest.now c.in-Some.line.now c.in-Some.suffix.now c.loop-line.longest c.loop-line.invariant c.in-Some.ensures)

pub returns-clause-line_buffer : goal.returns-clause-line_buffer
returns-clause-line_buffer c =
    (measured_all c.args.text.now c.loop-line.rest.now c.loop-line.longest c.max.result c.loop-line.invariant c.in_default.ensures).1 (omega (arith, c.max.ensures))

pub returns-clause-least : goal.returns-clause-least
returns-clause-least c = λ most within.
    let least = (measured_all c.args.text.now c.loop-line.rest.now c.loop-line.longest most c.loop-line.invariant c.in_default.ensures).0 within in
    omega (arith, least, c.max.ensures)

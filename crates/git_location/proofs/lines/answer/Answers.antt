use Rattle.std.proofs.Common.{refl, subst, length}
use Rattle.git_location.specs.Readings.{RefusesIn}
use Rattle.git_location.specs.Answers.IsAnswer.{reported}
use Rattle.git_location.specs.Answers.IsReported.{settled}
use Rattle.git_location.proofs.SettledClass.SimpleTextLemmas.{simple_unchanged}
use Rattle.git_syntax.proofs.ByMasks.SimpleTextLemmas.{simple_spelled}
use Rattle.git_location.proofs.LineAnswers.LineLemmas.{reported_answer, refused_answer}
use Rattle.git_location.proofs.lines.answer.Goals as goal

pub returns-then-is_simple_text : goal.returns-then-is_simple_text
returns-then-is_simple_text c =
    let line = c.args.line.now in
    let (v, simple) = c.if-is_simple_text.ensures refl in
    let (known, is) = simple_unchanged line v simple in
    (_, reported v (simple_spelled line v simple) (settled line is known refl refl), c.in_ok-append_settled.ensures)

pub returns-in-Ok : goal.returns-in-Ok
returns-in-Ok c = reported_answer c.args.line.now _ _ _ _ c.in-Ok.ensures.found c.report.ensures

pub returns-in-Err-Refused : goal.returns-in-Err-Refused
returns-in-Err-Refused c =
    let refused = subst (RefusesIn c.args.line.now (length c.args.line_buffer.now)) c.in-Err-Refused.field-0-is c.in-Err-Refused.ensures.refused in
    refused_answer c.args.line.now _ _ _ _ refused.1 c.refuse.ensures

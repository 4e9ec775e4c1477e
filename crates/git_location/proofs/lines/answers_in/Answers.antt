use Rattle.std.proofs.Common.{sym, ◌∙◌}
use Rattle.git_location.proofs.LineAnswers.LineLemmas.{done_step, done_all, done_last, line_alone, within_next}
use Rattle.git_location.proofs.lines.answers_in.Goals as goal

pub loop-line-preserved : goal.loop-line-preserved
loop-line-preserved c = record {
  done = done_step c.args.text.now _ _ _ _ _ _ _ c.loop-line.invariant.done c.in-Some.ensures c.in_ok-settled.ensures;
  line_buffer = within_next _ _ _ _ _ c.loop-line.invariant.line_buffer c.in-Some.ensures cc;
}

pub answer-requires-2 : goal.answer-requires-2
answer-requires-2 c = (line_alone _ _ c.in_default.ensures).0 c.loop-line.invariant.line_buffer

pub returns-then-is_empty-clause-answered : goal.returns-then-is_empty-clause-answered
returns-then-is_empty-clause-answered c = done_all c.args.text.now _ _ _ c.loop-line.invariant.done c.in_default.ensures (sym c.is_empty.ensures ∙ c.if-is_empty.true)

pub returns-clause-answered : goal.returns-clause-answered
returns-clause-answered c = done_last c.args.text.now _ _ _ _ _ c.loop-line.invariant.done c.in_default.ensures (sym c.is_empty.ensures ∙ c.if-is_empty.false) c.in_ok-settled-2.ensures

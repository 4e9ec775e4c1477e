-- An escape more.
use Rattle.git_syntax.proofs.Texts.RunLemmas.{run_more}
use Rattle.git_syntax.proofs.runs.past_run.Goals as goal

pub loop-high-preserved : goal.loop-high-preserved
loop-high-preserved c =
    let (digits, e, d) = c.in-Some.ensures in
    run_more c.args.text.now c.loop-high.rest.now digits c.in-Some.suffix.now c.loop-high.low c.is_high.result c.in-Some.high c.loop-high.invariant e d c.is_high.ensures

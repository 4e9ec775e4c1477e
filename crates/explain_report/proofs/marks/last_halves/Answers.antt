-- A mark that has no first match has no last one.
use Rattle.std.proofs.Common.{None, ap}
use Rattle.memchr.proofs.lemmas.ValueLemmas.{FindsLastNeedle-value}
use Rattle.explain_report.specs.Marks as spec
use Rattle.explain_report.proofs.marks.last_halves.Goals as goal

pub returns-in-None : goal.returns-in-None
returns-in-None c =
    let text = c.args.text.now in
    let mark = c.args.mark.now in
    ap (spec.around mark text) (FindsLastNeedle-value text mark None c.in-None.ensures)

use Rattle.explain_report.proofs.Joined.{shown_as}
use Rattle.explain_report.proofs.text.joined.shows.Goals as goal

pub returns-in-Some-after_all : goal.returns-in-Some-after_all
returns-in-Some-after_all c = λ is.
    shown_as c.args.pieces.now c.in-Some.front.now c.in-Some.last.now c.args.text.now c.in-Some-after_all.rest.now c.shown.result.now c.in-Some.ensures.cases.0 c.in-Some-after_all.ensures c.shown.ensures (c.is_last.ensures is)

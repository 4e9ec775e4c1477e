-- The refusal is reported as before, whatever Git reads in the line.
use Rattle.std.proofs.Common.{sym, subst}
use Rattle.explain_report.specs.Refusals.{ReportsRefusal}
use Rattle.explain_report.proofs.refusal.Refusal.with_git.Goals as goal

pub returns-clause-refusal : goal.returns-clause-refusal
returns-clause-refusal c = λ named flaw.
    let it = subst (ReportsRefusal c.args.line.now) (sym c.in_ok-refusal.ensures.0) (c.in_ok-of_line.ensures c.args.line.now named flaw) in
    record { refusal = it.refusal; refused = it.refused; at = it.at; len = it.len; reason = it.reason; words = it.words }

-- For an error without details the problem is all 0.
use Rattle.std.proofs.Common.{◌∙◌, ap, sym}
use Rattle.c_values.specs.Codes.{has_problem}
use Rattle.c_values.proofs.ProblemLemmas.{other_error}
use Rattle.c_values.proofs.reading.report.Goals as goal

pub returns-in-Err-clause-problem : goal.returns-in-Err-clause-problem
returns-in-Err-clause-problem c = λ plain.
    let (other, nothing) = other_error c.in-Err.error (ap has_problem (sym c.error_code.ensures) ∙ plain) in
    c.problem_of.ensures.other other ∙ nothing

use Rattle.std.proofs.Common.{sym, refl}
use Rattle.git_location.specs.Answers.IsReported.{unwritable}
use Rattle.git_location.proofs.lines.report.Goals as goal

pub report_written-requires : goal.report_written-requires
report_written-requires c = sym c.in-Ok.ensures

pub returns-in_ok-append_scheme-in-Err : goal.returns-in_ok-append_scheme-in-Err
returns-in_ok-append_scheme-in-Err c = (_, unwritable _ (sym c.in-Err.ensures) refl refl, c.in_ok-append_scheme-in-Err.ensures)

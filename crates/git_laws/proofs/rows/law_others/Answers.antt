-- The rows are lemmas.
use Rattle.git_laws.proofs.Examples.RowOtherLemmas.{slip_rows, exception_rows, no_exception_rows}
use Rattle.git_laws.proofs.rows.law_others.Goals as goal

pub returns : goal.returns
returns c = record { slips = slip_rows; inside = exception_rows; outside = no_exception_rows }

-- The rows are lemmas.
use Rattle.git_location.proofs.Examples.RowRunLemmas.{unwritten_row, read_row}
use Rattle.git_location.proofs.rows.law_runs.Goals as goal

pub returns : goal.returns
returns c = record { unwritten = unwritten_row; read = read_row }

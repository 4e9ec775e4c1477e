-- Rows of runs that failed, as parts of their definitions.
use Rattle.git_location.specs.Examples.RunRows.{UnwrittenRow, ReadRow}

-- a run that memory ended left the writer as it was
pub unwritten_row : UnwrittenRow
unwritten_row input old new same = same

-- a run that the writer ended left nothing of its input
pub read_row : ReadRow
read_row rest e same = same

-- Rows of errors, as parts of their definitions.
use Rattle.gix_url.specs.Examples.OtherRows.{KeptRows}

-- an error of a text that misses its path, or that is a bad URL, holds the text
pub kept_rows : KeptRows
kept_rows = (λ b taken_for input held. held.2.2, λ b taken_for named input held. held.2.2)

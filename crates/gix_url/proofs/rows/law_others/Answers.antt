-- The rows are lemmas.
use Rattle.gix_url.proofs.Examples.RowOtherLemmas.{kept_rows}
use Rattle.gix_url.proofs.rows.law_others.Goals as goal

pub returns : goal.returns
returns c = record { kept = kept_rows }

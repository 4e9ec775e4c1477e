-- The meaning of the rest, after the names and values so far, is the meaning of the whole, and there is
-- capacity for it; a whole without `+` leaves none in the rest.
use Rattle.std.proofs.Common.{◌++◌, ◌+◌, ◌≤◌, List, IsTrue, false, length, vec_len, vec_capacity}
use Rattle.gix_url.specs.declared.components.QueryText.{QueryText}
use Rattle.git_syntax.specs.Bytes.{FreeOf, plus_sign}
use Rattle.gix_url.specs.Internal.ComponentPieces.{BorrowsFields, field_count}
use Rattle.gix_url.proofs.components.fields.borrow_raw.Given as goal

abbrev pub invariant-loop-field : goal.invariant-loop-field
invariant-loop-field l = record {
  borrowed : (more : List (QueryText × QueryText)) → BorrowsFields false l.rest more → BorrowsFields false l.query (l.pairs.items ++ more);
  reserved : vec_len l.pairs + field_count l.rest ≤ vec_capacity l.pairs;
  plain : IsTrue l.plain → FreeOf plus_sign l.rest;
}

abbrev pub decreases-loop-field : goal.decreases-loop-field
decreases-loop-field l = length l.rest

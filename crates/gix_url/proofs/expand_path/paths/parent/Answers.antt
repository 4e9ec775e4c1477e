-- The last piece is cut off, and the idle bytes before it.
use Rattle.std.proofs.Common.{arith}
use Rattle.std.proofs.lemmas.Bool.Decides.{nat_tests}
use Rattle.gix_url.proofs.Homes.PathLemmas.{parent_above, parent_of_first}
use Rattle.gix_url.proofs.expand_path.paths.parent.Goals as goal

pub returns-in-Some : goal.returns-in-Some
returns-in-Some c = rw c.or_root.ensures (parent_above c.args.path.now _ c.in-Some.above.now c.in-Some.field-0-1.now _ c.up_to_last-whole.ensures c.in-Some.ensures.0 c.in-Some.ensures.1 c.up_to_last.ensures)

pub returns-else-is_empty : goal.returns-else-is_empty
returns-else-is_empty c = parent_of_first c.args.path.now _ c.up_to_last-whole.ensures c.in-None.ensures (grind (arith, nat_tests))

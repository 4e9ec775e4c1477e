-- The mark isn't empty, the offset is in the text or at its end, and no mark starts before it.
use Rattle.std.proofs.Common.{ℕ, ◌-◌, ◌<◌, ◌≤◌, List, length}
use Rattle.memchr.specs.Find.{Nowhere, OccursAt}
use Rattle.explain_report.proofs.marks.place_of.Given as goal

pub record Passed (text mark : List ℕ) (from : ℕ) : Type 0 where
  pub within : from ≤ length text
  pub filled : 0 < length mark
  pub nowhere : Nowhere (OccursAt text mark) 0 from

abbrev pub invariant-loop-at : goal.invariant-loop-at
invariant-loop-at l = Passed l.fn.text l.fn.mark l.from

abbrev pub decreases-loop-at : goal.decreases-loop-at
decreases-loop-at l = length l.fn.text - l.from

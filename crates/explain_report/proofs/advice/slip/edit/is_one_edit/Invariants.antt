-- The rest of both texts is one edit apart exactly if the texts are.
use Rattle.std.proofs.Common.{◌≡◌, length}
use Rattle.explain_report.specs.Slips.{is_one_edit}
use Rattle.explain_report.proofs.advice.slip.edit.is_one_edit.Given as goal

abbrev pub invariant-loop-text : goal.invariant-loop-text
invariant-loop-text l = is_one_edit l.text l.other ≡ is_one_edit l.fn.text l.fn.other

abbrev pub decreases-loop-text : goal.decreases-loop-text
decreases-loop-text l = length l.text

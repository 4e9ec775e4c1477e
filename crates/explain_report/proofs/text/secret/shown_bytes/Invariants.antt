-- The text appended so far, and the shown text of the pieces that are left, is the shown text of the whole.
use Rattle.std.proofs.Common.{◌≡◌, ◌++◌}
use Rattle.explain_report.specs.Secrets.{parts_shown, shown_of}
use Rattle.explain_report.proofs.text.secret.shown_bytes.Given as goal

abbrev pub invariant-loop-piece : goal.invariant-loop-piece
invariant-loop-piece l = l.out.items ++ parts_shown l.piece-iterator ≡ shown_of l.fn.text

-- The text compared so far is the shown text of the pieces so far.
use Rattle.std.proofs.Common.{◌≡◌, ◌++◌, ℕ, List, drop}
use Rattle.explain_report.specs.Pieces.{pieces_shown}
use Rattle.explain_report.proofs.text.joined.after_all.Given as goal

abbrev pub invariant-loop-piece : goal.invariant-loop-piece
invariant-loop-piece l = (done : List ℕ) × (l.text ≡ done ++ l.rest) × (pieces_shown l.pieces ≡ done ++ pieces_shown (drop l.piece-index l.pieces))

-- The host between its brackets.
use Rattle.git_location.proofs.Writing.PieceLemmas.{on_ok}
use Rattle.git_location.proofs.writer.piece.HostPieces.put.Goals as goal

pub returns-in_ok-put-in-Bracketed-2 : goal.returns-in_ok-put-in-Bracketed-2
returns-in_ok-put-in-Bracketed-2 g c =
    let joined = g.met.S.Sink.takes_joined in
    rw c.in-Bracketed.is
    (on_ok c.put-in-Bracketed-3.result (λ took. joined _ _ _ _ _ c.in_ok-put-in-Bracketed.ensures (joined _ _ _ _ _ c.in_ok-put-in-Bracketed-2.ensures took)) c.put-in-Bracketed-3.ensures)

-- A user and a password with their marks.
use Rattle.git_location.proofs.Writing.PieceLemmas.{on_ok}
use Rattle.git_location.proofs.writer.piece.UserPieces.put.Goals as goal

pub returns-in_ok-put-in-Both-3 : goal.returns-in_ok-put-in-Both-3
returns-in_ok-put-in-Both-3 g c =
    let joined = g.met.S.Sink.takes_joined in
    rw c.in-Both.is
    (on_ok c.put-in-Both-4.result
    (λ took.
    joined _ _ _ _ _ c.in_ok-put-in-Both.ensures (joined _ _ _ _ _ c.in_ok-put-in-Both-2.ensures (joined _ _ _ _ _ c.in_ok-put-in-Both-3.ensures took)))
    c.put-in-Both-4.ensures)

-- The colon, and the digits after it.
use Rattle.git_location.proofs.Writing.PieceLemmas.{on_ok}
use Rattle.git_location.proofs.writer.piece.write_port.Goals as goal

pub returns-in_ok-put-in-Some : goal.returns-in_ok-put-in-Some
returns-in_ok-put-in-Some g c = rw c.in-Some.is (on_ok c.put-in-Some.result (λ took. g.met.S.Sink.takes_joined _ _ _ _ _ c.in_ok-put-in-Some.ensures took) c.put-in-Some.ensures)

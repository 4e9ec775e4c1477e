-- The mark, the escapes, and nothing after them.
use Rattle.std.proofs.Common.{◌++◌, ap, subst, append-nil}
use Rattle.git_location.proofs.Writing.PieceLemmas.{on_ok}
use Rattle.git_location.proofs.writer.piece.PathPieces.put.Goals as goal

pub returns-in_ok-write_escaped-in-Escaped : goal.returns-in_ok-write_escaped-in-Escaped
returns-in_ok-write_escaped-in-Escaped g c =
    let joined = g.met.S.Sink.ends_joined in
    rw c.in-Escaped.is
    (on_ok c.write_end-in-Escaped.result
    (λ ended.
    subst (λ t. g.S.Sink.ends c.args.place.now t c.write_end-in-Escaped.new.place) (ap (λ x. c.in-Escaped.mark.now ++ x) (append-nil _))
    (joined _ _ _ _ _ c.in_ok-put-in-Escaped.ensures (joined _ _ _ _ _ c.in_ok-write_escaped-in-Escaped.ensures ended)))
    c.write_end-in-Escaped.ensures)

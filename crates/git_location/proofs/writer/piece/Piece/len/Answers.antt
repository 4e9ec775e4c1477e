-- The length of written percents.
use Rattle.std.proofs.Common.{ap, ◌∙◌, arith, length}
use Rattle.git_location.specs.Internal.Pieces.{piece_text}
use Rattle.git_location.proofs.Writing.PieceLemmas.{length_percents}
use Rattle.git_location.proofs.writer.piece.Piece.len.Goals as goal

pub returns-in-Percents-clause-exact : goal.returns-in-Percents-clause-exact
returns-in-Percents-clause-exact c =
    let long = ap (λ p. length (piece_text p)) c.in-Percents.is ∙ length_percents c.in-Percents.text.now in
    let counted = rw c.as_bytes-in-Percents.ensures.value at c.count_percents.ensures in
    omega (arith, long, counted)

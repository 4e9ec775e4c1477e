-- A piece is decoded if there is one.
use Rattle.std.proofs.Common.{ap, option_map, refl}
use Rattle.git_reads.specs.Internal.{DecodesPart}
use Rattle.git_reads.proofs.credential.decode_part.Goals as goal

pub returns-in_ok-decode_piece-in-Some : goal.returns-in_ok-decode_piece-in-Some
returns-in_ok-decode_piece-in-Some c =
    DecodesPart.present c.in-Some.piece.now c.in_ok-decode_piece-in-Some.field-0.now c.in_ok-decode_piece-in-Some.ensures (ap (option_map (λ t. t.now)) c.in-Some.is) refl

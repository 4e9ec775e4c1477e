-- A text is read if it is cut and each of its parts is of one line.
use Rattle.std.proofs.Common.{refl}
use Rattle.git_reads.proofs.Reading.CredentialLemmas.{reading_of_pieces, unread_of_pieces}
use Rattle.git_reads.specs.Views.{credential_reading}
use Rattle.git_reads.proofs.credential.reading.Goals as goal

pub returns-then-are_one_line : goal.returns-then-are_one_line
returns-then-are_one_line c =
    reading_of_pieces c.args.text.now c.in-Some.pieces.protocol.now c.in-Some.pieces.authority.now c.in-Some.pieces.suffix.now (credential_reading c.in_ok-found.found) c.in-Some.ensures c.in_ok-found.ensures.protocol c.in_ok-found.ensures.read (c.if-are_one_line.ensures.0 refl)

pub returns-else-are_one_line : goal.returns-else-are_one_line
returns-else-are_one_line c =
    unread_of_pieces c.args.text.now c.in-Some.pieces.protocol.now c.in-Some.pieces.authority.now c.in-Some.pieces.suffix.now (credential_reading c.in_ok-found.found) c.in-Some.ensures c.in_ok-found.ensures.protocol c.in_ok-found.ensures.read (λ lines. cc (c.if-are_one_line.ensures.1 lines))

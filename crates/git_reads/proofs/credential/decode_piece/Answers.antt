-- The text before the first colon and the colon are put, and the text after it decoded.
use Rattle.std.proofs.Common.{subst, sym}
use Rattle.git_reads.specs.Credentials.{CredentialDecodes}
use Rattle.git_reads.proofs.Reading.CredentialLemmas.{decoded_after}
use Rattle.git_reads.proofs.credential.decode_piece.Goals as goal

pub returns : goal.returns
returns c =
    subst (CredentialDecodes c.args.piece.now) (sym c.as_slice-2.ensures.value)
    (decoded_after c.args.piece.now c.in-Some.front.now c.in-Some.rest.now c.reserve_exact.new.self.items c.extend_from_slice.new.self.items c.push.new.self.items c.append_decoded-2.new.out.items c.in-Some.ensures.0 c.in-Some.ensures.1 (cc) c.in_ok-extend_from_slice.ensures.items c.in_ok-push.ensures.items c.in_ok-append_decoded-2.ensures.value)

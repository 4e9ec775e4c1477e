-- Each piece is decoded.
use Rattle.git_reads.proofs.Reading.CredentialLemmas.{cut_decoded}
use Rattle.git_reads.proofs.credential.decode_pieces.Goals as goal

pub returns-clause-read : goal.returns-clause-read
returns-clause-read c = record {
  named = c.cut_authority-parts.result.named.now;
  cut = cut_decoded c.args.pieces.authority.now _ _ _ _ c.cut_authority-parts.result.named.now c.cut_authority-parts.ensures c.in_ok-user.ensures c.in_ok-password.ensures;
  host = c.in_ok-host.ensures;
  path = c.in_ok-path.ensures;
}

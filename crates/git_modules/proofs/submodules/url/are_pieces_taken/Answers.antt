-- The parts by the pieces.
use Rattle.std.proofs.Common.{subst, sym}
use Rattle.git_modules.specs.SubmoduleInternal.{TestsPieces}
use Rattle.git_modules.proofs.Urls.FeedLemmas.{line_tells}
use Rattle.git_modules.proofs.Urls.HostLemmas.{pieces_tell}
use Rattle.git_modules.proofs.submodules.url.are_pieces_taken.Goals as goal

pub returns : goal.returns
returns c =
    subst (TestsPieces c.args.pieces.protocol.now c.args.pieces.authority.now c.args.pieces.suffix.now) (sym c.all_three.ensures)
    (pieces_tell c.args.pieces.protocol.now c.args.pieces.authority.now c.args.pieces.suffix.now c.is_free_of-is_line.result c.is_authority_taken-is_taken.result c.piece_has_feed-has_feed.result (line_tells c.args.pieces.protocol.now c.is_free_of-is_line.result c.is_free_of-is_line.ensures) c.is_authority_taken-is_taken.ensures c.piece_has_feed-has_feed.ensures)

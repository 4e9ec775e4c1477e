-- The folder is made ready, and the pieces are appended.
use Rattle.gix_url.proofs.Homes.PathLemmas.{lies_below}
use Rattle.gix_url.proofs.expand_path.paths.push_below.Goals as goal

pub returns : goal.returns
returns c = lies_below _ _ _ _ c.in_ok-push_slash.ensures c.in_ok-push_pieces.ensures

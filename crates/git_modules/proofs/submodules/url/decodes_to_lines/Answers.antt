-- A text is of several lines if a line feed is in its decoding.
use Rattle.git_modules.proofs.Urls.FeedLemmas.{tells_lines}
use Rattle.git_modules.proofs.submodules.url.decodes_to_lines.Goals as goal

pub returns : goal.returns
returns c = tells_lines c.args.url.now c.piece_has_feed.result c.piece_has_feed.ensures

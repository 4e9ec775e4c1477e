-- A line feed is before the first colon, or after it.
use Rattle.std.proofs.Common.{ap, not, refl, subst}
use Rattle.git_reads.specs.Git.{git_decode}
use Rattle.git_modules.specs.SubmoduleInternal.{TestsFeed}
use Rattle.git_modules.specs.SubmoduleUrls.{has_feed}
use Rattle.git_modules.proofs.Urls.FeedLemmas.{feed_cut, other_or, short_or}
use Rattle.git_modules.proofs.submodules.url.piece_has_feed.Goals as goal

pub returns-then-not-is_line : goal.returns-then-not-is_line
returns-then-not-is_line c =
    subst (TestsFeed c.args.piece.now) (short_or (not c.is_free_of-is_line.result) (has_feed (git_decode c.in-Some.rest.now)) (ap not c.if-not-is_line.true))
    (feed_cut c.args.piece.now c.in-Some.front.now c.in-Some.rest.now c.is_free_of-is_line.result (has_feed (git_decode c.in-Some.rest.now)) c.in-Some.ensures.0 c.in-Some.ensures.1 c.is_free_of-is_line.ensures refl)

pub returns-else-not-is_line : goal.returns-else-not-is_line
returns-else-not-is_line c =
    subst (TestsFeed c.args.piece.now) (other_or (not c.is_free_of-is_line.result) c.has_feed.result (ap not c.if-not-is_line.false))
    (feed_cut c.args.piece.now c.in-Some.front.now c.in-Some.rest.now c.is_free_of-is_line.result c.has_feed.result c.in-Some.ensures.0 c.in-Some.ensures.1 c.is_free_of-is_line.ensures c.has_feed.ensures)

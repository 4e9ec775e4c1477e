-- A line feed is in the user or in the password.
use Rattle.std.proofs.Common.{sym}
use Rattle.git_modules.specs.SubmoduleInternal.{TestsInformation}
use Rattle.git_modules.proofs.Urls.FeedLemmas.{other_or, short_or}
use Rattle.git_modules.proofs.submodules.url.information_has_feed.Goals as goal

pub returns-then-is_in_user : goal.returns-then-is_in_user
returns-then-is_in_user c =
    TestsInformation.with_password c.in-Some.user.now c.in-Some.password.now c.piece_has_feed-is_in_user.result c.piece_has_feed-is_in_password.result c.in-Some.ensures.0 c.in-Some.ensures.1 c.piece_has_feed-is_in_user.ensures c.piece_has_feed-is_in_password.ensures (sym (short_or c.piece_has_feed-is_in_user.result c.piece_has_feed-is_in_password.result c.if-is_in_user.true))

pub returns-else-is_in_user : goal.returns-else-is_in_user
returns-else-is_in_user c =
    TestsInformation.with_password c.in-Some.user.now c.in-Some.password.now c.piece_has_feed-is_in_user.result c.piece_has_feed-is_in_password.result c.in-Some.ensures.0 c.in-Some.ensures.1 c.piece_has_feed-is_in_user.ensures c.piece_has_feed-is_in_password.ensures (sym (other_or c.piece_has_feed-is_in_user.result c.piece_has_feed-is_in_password.result c.if-is_in_user.false))

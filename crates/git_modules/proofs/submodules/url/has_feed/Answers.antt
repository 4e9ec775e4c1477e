-- All escapes decoded, there is a line feed if Git has one.
use Rattle.std.proofs.Common.{rules}
use Rattle.percent_encoding.specs.Iter.{decoded_bytes}
use Rattle.git_modules.proofs.Urls.FeedLemmas.{feeds_of}
use Rattle.git_modules.proofs.submodules.url.has_feed.Goals as goal

pub loop-byte-init : goal.loop-byte-init
loop-byte-init c = feeds_of c.args.text.now (decoded_bytes c.into_iter-byte-iterator.result) (first_of (cc, search rules))

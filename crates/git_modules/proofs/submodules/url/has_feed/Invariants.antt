use Rattle.std.proofs.Common.{◌≡◌}
use Rattle.percent_encoding.specs.Iter.{decoded_bytes}
use Rattle.git_reads.specs.Git.{git_decode}
use Rattle.git_modules.specs.SubmoduleUrls.{has_feed}
use Rattle.git_modules.proofs.submodules.url.has_feed.Given as goal

abbrev pub invariant-loop-byte : goal.invariant-loop-byte
invariant-loop-byte l = has_feed (git_decode l.text) ≡ has_feed (decoded_bytes l.byte-iterator)

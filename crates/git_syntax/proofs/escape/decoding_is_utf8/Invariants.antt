-- The bytes that the checker read and the rest are UTF-8 if the whole decoding is.
use Rattle.std.proofs.Common.{◌↔◌, ◌++◌, ℕ, IsUtf8, List, length}
use Rattle.percent_encoding.specs.Percent.{percent_decode}
use Rattle.simdutf8.specs.Tracks.{HasRead}
use Rattle.git_syntax.proofs.escape.decoding_is_utf8.Given as goal

abbrev pub invariant-loop-rest : goal.invariant-loop-rest
invariant-loop-rest l = (read : List ℕ) × HasRead l.checker read × (IsUtf8 (percent_decode l.text) ↔ IsUtf8 (read ++ percent_decode l.rest))

abbrev pub decreases-loop-rest : goal.decreases-loop-rest
decreases-loop-rest l = length (percent_decode l.rest)

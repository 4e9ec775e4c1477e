-- The bytes counted so far and the decoding of the rest make up the whole, and no more was counted than there
-- are bytes.
use Rattle.std.proofs.Common.{◌≡◌, ◌≤◌, ◌+◌, length}
use Rattle.percent_encoding.specs.Percent.{percent_decode}
use Rattle.gix_url.proofs.components.measure.decoded_len.Given as goal

abbrev pub invariant-loop-rest : goal.invariant-loop-rest
invariant-loop-rest l = record {
  counted : l.len + length (percent_decode l.rest) ≡ length (percent_decode l.text);
  small : l.len + length l.rest ≤ length l.text;
}

abbrev pub decreases-loop-rest : goal.decreases-loop-rest
decreases-loop-rest l = length l.rest

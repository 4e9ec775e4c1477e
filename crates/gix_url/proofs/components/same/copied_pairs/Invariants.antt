-- The pairs so far are copied, and the capacity suffices for the others.
use Rattle.std.proofs.Common.{◌≡◌, ◌≤◌, map, length, take, vec_len, vec_capacity}
use Rattle.gix_url.specs.ComponentViews.{pair_bytes, pair_borrowed}
use Rattle.gix_url.proofs.components.same.copied_pairs.Given as goal

abbrev pub invariant-loop-pair : goal.invariant-loop-pair
invariant-loop-pair l = record {
  equal : map pair_bytes l.copy.items ≡ map pair_bytes (take l.pair-index l.pairs);
  alike : map pair_borrowed l.copy.items ≡ map pair_borrowed (take l.pair-index l.pairs);
  count : vec_len l.copy ≡ l.pair-index;
  reserved : length l.pairs ≤ vec_capacity l.copy;
}

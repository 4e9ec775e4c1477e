-- The bytes of the pairs so far were appended.
use Rattle.std.proofs.Common.{◌≡◌, ◌++◌, map, take}
use Rattle.gix_url.specs.ComponentViews.{pair_bytes}
use Rattle.c_values.specs.ComponentNumbers.{joined_pairs}
use Rattle.c_values.proofs.components.append_pairs.Given as goal

abbrev pub invariant-loop-pair : goal.invariant-loop-pair
invariant-loop-pair l = l.bytes.items ≡ l.fn.bytes.items ++ joined_pairs (map pair_bytes (take l.pair-index l.pairs))

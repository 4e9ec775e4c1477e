-- The lengths of the pairs so far were appended.
use Rattle.std.proofs.Common.{◌≡◌, map, take}
use Rattle.gix_url.specs.ComponentViews.{pair_bytes}
use Rattle.c_values.specs.ComponentNumbers.{pair_lengths}
use Rattle.c_values.proofs.components.lengths_of.Given as goal

abbrev pub invariant-loop-pair : goal.invariant-loop-pair
invariant-loop-pair l = l.lengths.items ≡ pair_lengths (map pair_bytes (take l.pair-index l.pairs))

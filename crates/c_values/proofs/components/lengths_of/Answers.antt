-- The lengths that the next name and value add are those that the pairs up to the next place have more.
use Rattle.std.proofs.Common.{arith, append_assoc}
use Rattle.std.proofs.lemmas.Grind.{common_steps}
use Rattle.c_values.proofs.ComponentLemmas.{lengths_more}
use Rattle.c_values.proofs.components.lengths_of.Goals as goal

pub loop-pair-preserved : goal.loop-pair-preserved
loop-pair-preserved c =
    let more = lengths_more c.args.pairs.now c.loop-pair.pair-index c.pair-item.result c.loop-pair-test.true in
    grind (arith, common_steps, append_assoc, more, c.pair-item.is, c.loop-pair.invariant, c.in_ok-append_lengths.ensures)

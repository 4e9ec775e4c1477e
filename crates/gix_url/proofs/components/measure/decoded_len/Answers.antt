-- In the end nothing is left to be counted.
use Rattle.std.proofs.Common.{◌<◌, arith, length}
use Rattle.gix_url.proofs.ComponentCuts.MeaningLemmas.{decoded_none}
use Rattle.gix_url.proofs.components.measure.decoded_len.Goals as goal

pub returns : goal.returns
returns c =
    let short : length c.loop-rest.rest.now < 1 = omega (arith, c.in_default.len_below) in
    let none = decoded_none c.loop-rest.rest.now short in
    omega (arith, none, c.loop-rest.invariant.counted)

-- Look-ups in a table by both halves of a byte.
use Rattle.std.proofs.Common.{refl, eqb, bit_and, arith}
use Rattle.std.proofs.lemmas.Simd.{zip2_of_maps}
use Rattle.git_syntax.specs.Internal.Masks.{is_common_byte}
use Rattle.git_syntax.proofs.ByMasks.LaneLemmas.{compared, mask_of_lanes}
use Rattle.git_syntax.proofs.blocks.commons.Goals as goal

pub returns : goal.returns
returns c =
    let v = c.args.bytes in
    let high = c.by_high_half-high.ensures in
    mask_of_lanes _ is_common_byte 16 v _ (omega arith) c.fits-bytes (zip2_of_maps (compared eqb) _ _ v (zip2_of_maps bit_and _ _ v c.by_low_half.ensures high) high) refl

-- A comparison with a range, and one with a byte.
use Rattle.std.proofs.Common.{refl, not, eqb, arith}
use Rattle.std.proofs.lemmas.Simd.{zip2_splat, zip2_of_maps}
use Rattle.git_syntax.specs.Escapes.{is_plain_byte}
use Rattle.git_syntax.proofs.ByMasks.LaneLemmas.{compared, in_range_lanes, mask_of_lanes}
use Rattle.git_syntax.proofs.blocks.plains.Goals as goal

pub returns : goal.returns
returns c =
    let v = c.args.bytes in
    let long = c.fits-bytes.0 in
    let lanes = zip2_of_maps _ _ _ v (in_range_lanes 33 93 16 v long) (zip2_splat (compared (λ a b. not (eqb a b))) v 16 37 long) in
    mask_of_lanes _ is_plain_byte 16 v _ (omega arith) c.fits-bytes lanes refl

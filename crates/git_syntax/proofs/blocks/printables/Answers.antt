-- A comparison with a range.
use Rattle.std.proofs.Common.{refl, arith}
use Rattle.git_syntax.specs.Escapes.{is_printable_byte}
use Rattle.git_syntax.proofs.ByMasks.LaneLemmas.{in_range_lanes, mask_of_lanes}
use Rattle.git_syntax.proofs.blocks.printables.Goals as goal

pub returns : goal.returns
returns c =
    let v = c.args.bytes in
    mask_of_lanes _ is_printable_byte 16 v _ (omega arith) c.fits-bytes (in_range_lanes 33 93 16 v c.fits-bytes.0) refl

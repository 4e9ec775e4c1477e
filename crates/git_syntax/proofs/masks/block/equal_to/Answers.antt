-- The bitmask of a comparison with one byte.
use Rattle.std.proofs.Common.{eqb, arith, w8}
use Rattle.std.proofs.lemmas.Simd.{bitmask_splat}
use Rattle.git_syntax.proofs.masks.block.equal_to.Goals as goal

pub returns : goal.returns
returns c = bitmask_splat w8 eqb c.args.bytes 16 c.args.byte c.fits-bytes.0 (omega arith)

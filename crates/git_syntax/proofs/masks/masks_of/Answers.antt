-- Blocks one after the other, and the last one, which may overlap the one before.
use Rattle.std.proofs.Common.{◌-◌, ◌∙◌, length, refl, arith}
use Rattle.git_syntax.specs.Internal.Masks.{is_common_byte}
use Rattle.git_syntax.proofs.Texts.BlockLemmas.{last_block, next_block}
use Rattle.git_syntax.proofs.masks.masks_of.Goals as goal

pub loop-done-preserved : goal.loop-done-preserved
loop-done-preserved c = (
  omega arith,
  omega (arith, c.loop-done-test.true),
  c.join-masks.ensures,
  next_block is_common_byte 16 c.loop-done.done c.args.text.now c.loop-done.invariant.3 (c.if-not-is_common_block-3.ensures refl),
)

pub returns-clause-common : goal.returns-clause-common
returns-clause-common c =
    let text = c.args.text.now in
    last_block is_common_byte c.loop-done.done (length text - 16) text (omega (arith, c.loop-done-test.false)) (omega arith) c.loop-done.invariant.3 ∙ c.if-not-is_common_block.ensures refl

-- Four blocks at once, the blocks before the last one, and the last one.
use Rattle.std.proofs.Common.{◌∙◌, ◌-◌, length, sym, arith}
use Rattle.git_syntax.specs.Escapes.{is_plain_byte}
use Rattle.git_syntax.proofs.Texts.BlockLemmas.{failing_block, last_block, next_block}
use Rattle.git_syntax.proofs.blocks.are_plain.Goals as goal

pub loop-done-preserved : goal.loop-done-preserved
loop-done-preserved c = (
  omega (arith, c.loop-done-test.true),
  next_block is_plain_byte 64 c.loop-done.done c.args.text.now c.loop-done.invariant.1 (sym c.if-not-are_plain_blocks.ensures),
)

pub returns-then-not-are_plain_blocks : goal.returns-then-not-are_plain_blocks
returns-then-not-are_plain_blocks c = sym (failing_block is_plain_byte 64 c.loop-done.done c.args.text.now (sym c.if-not-are_plain_blocks.ensures))

pub loop-done-2-preserved : goal.loop-done-2-preserved
loop-done-2-preserved c = (
  omega (arith, c.loop-done-2-test.true),
  next_block is_plain_byte 16 c.loop-done-2.done c.args.text.now c.loop-done-2.invariant.1 (sym c.if-not-is_plain_block.ensures),
)

pub returns-then-not-is_plain_block : goal.returns-then-not-is_plain_block
returns-then-not-is_plain_block c = sym (failing_block is_plain_byte 16 c.loop-done-2.done c.args.text.now (sym c.if-not-is_plain_block.ensures))

pub returns : goal.returns
returns c =
    let text = c.args.text.now in
    c.is_plain_block-2.ensures ∙ sym (last_block is_plain_byte c.loop-done-2.done (length text - 16) text (omega (arith, c.loop-done-2-test.false)) (omega arith) c.loop-done-2.invariant.1)

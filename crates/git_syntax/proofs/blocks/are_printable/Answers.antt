-- The blocks before the last one, and the last one.
use Rattle.std.proofs.Common.{◌∙◌, ◌-◌, length, sym, arith}
use Rattle.git_syntax.specs.Escapes.{is_printable_byte}
use Rattle.git_syntax.proofs.Texts.BlockLemmas.{failing_block, last_block, next_block}
use Rattle.git_syntax.proofs.blocks.are_printable.Goals as goal

pub loop-done-preserved : goal.loop-done-preserved
loop-done-preserved c = (
  omega (arith, c.loop-done-test.true),
  next_block is_printable_byte 16 c.loop-done.done c.args.text.now c.loop-done.invariant.1 (sym c.if-not-is_printable_block.ensures),
)

pub returns-then-not-is_printable_block : goal.returns-then-not-is_printable_block
returns-then-not-is_printable_block c = sym (failing_block is_printable_byte 16 c.loop-done.done c.args.text.now (sym c.if-not-is_printable_block.ensures))

pub returns : goal.returns
returns c =
    let text = c.args.text.now in
    c.is_printable_block-2.ensures ∙ sym (last_block is_printable_byte c.loop-done.done (length text - 16) text (omega (arith, c.loop-done-test.false)) (omega arith) c.loop-done.invariant.1)

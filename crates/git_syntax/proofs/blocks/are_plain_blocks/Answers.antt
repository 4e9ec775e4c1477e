-- The answers for four blocks are that for the text that they are.
use Rattle.std.proofs.Common.{sym}
use Rattle.git_syntax.specs.Escapes.{is_plain_byte}
use Rattle.git_syntax.proofs.Texts.BlockLemmas.{four_blocks}
use Rattle.git_syntax.proofs.blocks.are_plain_blocks.Goals as goal

pub returns : goal.returns
returns c =
    rw (c.is_plain_block.ensures, c.is_plain_block-2.ensures, c.is_plain_block-3.ensures, c.is_plain_block-4.ensures)
    (sym (four_blocks is_plain_byte c.args.at c.args.text.now))

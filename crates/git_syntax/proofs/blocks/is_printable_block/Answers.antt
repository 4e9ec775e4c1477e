-- The mask of a class that each byte is in.
use Rattle.std.proofs.Common.{sym, drop, take, arith, length-drop, length-take-le}
use Rattle.git_syntax.specs.Escapes.{is_printable_byte}
use Rattle.git_syntax.proofs.Texts.BlockLemmas.{same_answer}
use Rattle.git_syntax.proofs.blocks.is_printable_block.Goals as goal

pub returns : goal.returns
returns c =
    let block = take 16 (drop c.args.at c.args.text.now) in
    let long = length-take-le 16 (drop c.args.at c.args.text.now) (omega (arith, length-drop c.args.at c.args.text.now, c.requires)) in
    same_answer c.all.result _ (c.all.ensures is_printable_byte block (sym long) (omega (arith, long)) c.printables.ensures)

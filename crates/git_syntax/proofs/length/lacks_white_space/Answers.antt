-- Two searches find no byte of white space exactly if there is none.
use Rattle.git_syntax.proofs.Parsing.LengthLemmas.{white_space_searched}
use Rattle.git_syntax.proofs.length.lacks_white_space.Goals as goal

pub returns-then-is_none : goal.returns-then-is_none
returns-then-is_none c =
    white_space_searched c.args.bytes.now c.memchr3.result c.memchr2.result c.is_none-then-is_none.result c.memchr3.ensures c.memchr2.ensures c.if-is_none.ensures c.is_none-then-is_none.ensures

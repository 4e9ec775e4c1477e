-- A text in which no white space is found counts as a whole.
use Rattle.git_syntax.proofs.Parsing.LengthLemmas.{all_visible}
use Rattle.git_syntax.proofs.length.count_visible.Goals as goal

pub returns-then-lacks_white_space : goal.returns-then-lacks_white_space
returns-then-lacks_white_space c = all_visible c.args.bytes.now (c.lacks_white_space.ensures.0 c.if-lacks_white_space.true)

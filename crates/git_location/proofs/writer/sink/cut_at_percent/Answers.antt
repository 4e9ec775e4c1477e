-- The parts around the first `%`.
use Rattle.std.proofs.Common.{arith}
use Rattle.git_location.proofs.Writing.PieceLemmas.{split_cuts}
use Rattle.git_location.proofs.writer.sink.cut_at_percent.Goals as goal

pub returns : goal.returns
returns c = split_cuts 37 c.args.text.now c.split_once.result c.split_once.ensures.cases (omega arith)

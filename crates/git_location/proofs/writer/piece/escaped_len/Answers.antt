-- Each escape makes a text longer by two.
use Rattle.std.proofs.Common.{arith}
use Rattle.git_location.proofs.Writing.PieceLemmas.{length_escapes}
use Rattle.git_location.proofs.writer.piece.escaped_len.Goals as goal

pub returns-clause-exact : goal.returns-clause-exact
returns-clause-exact c = let long = length_escapes c.args.set c.args.text.now in omega (arith, long, c.count_escaped.ensures)

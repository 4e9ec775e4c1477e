-- No mark is in the bytes so far.
use Rattle.git_secrets.proofs.Cuts.MarkLemmas.{Passed}
use Rattle.git_secrets.proofs.mark.Mark.first.Given as goal

abbrev pub invariant-loop-at : goal.invariant-loop-at
invariant-loop-at l = Passed l.self l.text l.at

-- No byte of the class is in the bytes so far.
use Rattle.git_secrets.proofs.Cuts.ClassLemmas.{Passed}
use Rattle.git_secrets.proofs.mark.Class.first.Given as goal

abbrev pub invariant-loop-at : goal.invariant-loop-at
invariant-loop-at l = Passed l.self l.text l.at

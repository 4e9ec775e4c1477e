-- No mark is in the bytes so far.
use Rattle.git_audit.proofs.Secrets.MarkLemmas.{Passed}
use Rattle.git_audit.proofs.secret.mark.Mark.first.Given as goal

abbrev pub invariant-loop-at : goal.invariant-loop-at
invariant-loop-at l = Passed l.self l.text l.at

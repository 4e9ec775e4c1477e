-- No mark is in the bytes so far, which is after the place.
use Rattle.std.proofs.Common.{◌≡◌, drop, None}
use Rattle.git_secrets.specs.Secrets.{last_mark}
use Rattle.git_secrets.proofs.mark.Mark.last.Given as goal

abbrev pub invariant-loop-at : goal.invariant-loop-at
invariant-loop-at l = last_mark l.self (drop l.at l.text) ≡ None

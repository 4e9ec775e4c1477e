-- If nothing is refused a location is spelled, and none is.
use Rattle.git_refusals.proofs.read.refusal.Goals as goal

pub returns-in-None-clause-refused : goal.returns-in-None-clause-refused
returns-in-None-clause-refused c = λ unspelled. let (v, s) = c.in-None.ensures.found in absurd (unspelled v s)

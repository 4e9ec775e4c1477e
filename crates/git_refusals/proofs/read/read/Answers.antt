-- A text in which nothing is found spells no location, so it has a refusal.
use Rattle.git_refusals.proofs.read.read.Goals as goal

pub returns-in-Err-clause-refused : goal.returns-in-Err-clause-refused
returns-in-Err-clause-refused c = c.refusal.ensures.refused c.in-Err.ensures.refused

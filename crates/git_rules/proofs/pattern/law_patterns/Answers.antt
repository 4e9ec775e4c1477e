-- The law is a lemma.
use Rattle.git_rules.proofs.Matched.PickedLemmas.{picked_own}
use Rattle.git_rules.proofs.pattern.law_patterns.Goals as goal

pub returns : goal.returns
returns c = picked_own

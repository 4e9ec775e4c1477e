-- Of two decisions both are by the list, or by the one entry that counts.
use Rattle.git_rules.proofs.Allowed.DecisionLemmas.{one_decision}
use Rattle.git_rules.proofs.protocols.law_permission.Goals as goal

pub returns : goal.returns
returns c = one_decision

use Rattle.git_rules.proofs.Rules.UniqueLemmas.{one_outcome, one_outcome_to_push}
use Rattle.git_rules.proofs.rewrite.law.law_one_outcome.Goals as goal

pub returns-clause-fetching : goal.returns-clause-fetching
returns-clause-fetching c = one_outcome

pub returns-clause-pushing : goal.returns-clause-pushing
returns-clause-pushing c = one_outcome_to_push

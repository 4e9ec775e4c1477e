-- Two uses are one, and helpers apply.
use Rattle.git_rules.proofs.Asked.AnswerLemmas.{helper_applies, one_use}
use Rattle.git_rules.proofs.credentials.law.law_credentials.Goals as goal

pub returns-clause-one_use : goal.returns-clause-one_use
returns-clause-one_use c = λ r entries a b. one_use r entries a b

pub returns-clause-apply : goal.returns-clause-apply
returns-clause-apply c = λ r entries used i. helper_applies r entries used i

-- Two answers are one, and the best entry is the last that is taken.
use Rattle.git_rules.proofs.Settled.AnswerLemmas.{one_answer}
use Rattle.git_rules.proofs.Settled.TakenLemmas.{best_is_last, none_taken}
use Rattle.git_rules.proofs.pattern.settings.law.law_settings.Goals as goal

pub returns-clause-one_answer : goal.returns-clause-one_answer
returns-clause-one_answer c = λ name place entries a b. one_answer name place entries a b

pub returns-clause-last : goal.returns-clause-last
returns-clause-last c = λ name place entries i. best_is_last name place entries i

pub returns-clause-none : goal.returns-clause-none
returns-clause-none c = λ name place entries i e. none_taken name place entries i e

-- Each law is a lemma.
use Rattle.git_parts.proofs.Cutting.PartLawLemmas.{one_cut, password_is_part, port_is_part}
use Rattle.git_parts.proofs.laws.law_parts.Goals as goal

pub returns-clause-one : goal.returns-clause-one
returns-clause-one c = one_cut

pub returns-clause-password : goal.returns-clause-password
returns-clause-password c = password_is_part

pub returns-clause-port : goal.returns-clause-port
returns-clause-port c = port_is_part

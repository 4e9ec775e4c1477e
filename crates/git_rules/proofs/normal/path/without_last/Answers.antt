-- The text before the last `/`.
use Rattle.git_rules.proofs.NormalForms.NormalPathLemmas.{top_cut}
use Rattle.git_rules.proofs.normal.path.without_last.Goals as goal

pub returns-clause-path : goal.returns-clause-path
returns-clause-path c = λ stack shows. top_cut c.args.path.now c.in_ok-front.front.now c.in_ok-front.field-0-1.now stack shows c.in_ok-front.ensures.0 c.in_ok-front.ensures.1

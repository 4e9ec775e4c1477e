-- The brackets are cut off in one way.
use Rattle.git_location.proofs.SettledClass.SettledLemmas.{literal_in_brackets}
use Rattle.git_location.proofs.settled.host.is_bracketed_literal.Goals as goal

pub returns-in-Some : goal.returns-in-Some
returns-in-Some c = literal_in_brackets c.is_normal_literal.result c.args.host.now c.in-Some.inner.now c.in-Some.ensures c.is_normal_literal.ensures

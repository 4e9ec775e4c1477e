-- By whether a `/` is the last byte.
use Rattle.std.proofs.Common.{sym, ap, ◌∙◌}
use Rattle.git_rules.specs.Patterns.{without_last_slash}
use Rattle.git_rules.proofs.Matched.PathLemmas.{without-slash, without-other}
use Rattle.git_modules.proofs.resolve.without_last_slash.Goals as goal

pub returns-in-None : goal.returns-in-None
returns-in-None c = sym (without-other c.args.text.now c.in-None.ensures)

pub returns-in-Some : goal.returns-in-Some
returns-in-Some c = sym (ap without_last_slash c.in-Some.ensures ∙ without-slash c.in-Some.front.now)

-- By whether the text begins with the byte.
use Rattle.std.proofs.Common.{Some, None}
use Rattle.git_modules.proofs.Resolved.StepLemmas.{strips_first}
use Rattle.git_modules.proofs.resolve.step.past_byte.Goals as goal

pub returns-in-Some : goal.returns-in-Some
returns-in-Some c = strips_first c.args.c c.args.text.now (Some c.in-Some.rest) c.in-Some.ensures

pub returns-in-None : goal.returns-in-None
returns-in-None c = strips_first c.args.c c.args.text.now None c.in-None.ensures

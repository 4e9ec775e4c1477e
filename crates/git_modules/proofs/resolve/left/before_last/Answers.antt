-- By whether the byte is in the text.
use Rattle.std.proofs.Common.{Some, None}
use Rattle.git_modules.proofs.Resolved.LeftLemmas.{cuts_at_last}
use Rattle.git_modules.proofs.resolve.left.before_last.Goals as goal

pub returns-in-Some : goal.returns-in-Some
returns-in-Some c =
    cuts_at_last c.args.c c.args.text.now (Some (c.in-Some.front, c.in-Some.field-0-1)) c.in-Some.ensures

pub returns-in-None : goal.returns-in-None
returns-in-None c = cuts_at_last c.args.c c.args.text.now None c.in-None.ensures

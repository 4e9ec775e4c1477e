-- A text with a path.
use Rattle.git_refusals.proofs.Refusing.ScpLemmas.{addressed_read}
use Rattle.git_refusals.proofs.scp.bad_addressed.Goals as goal

pub returns : goal.returns
returns c =
    addressed_read c.args.text.now c.args.user.now c.args.address.now c.args.path.now c.requires c.in_default.ensures.found c.if-is_empty.ensures

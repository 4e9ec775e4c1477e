-- Whatever the text of such a location is, Git reads in it the location's own parts.
use Rattle.std.proofs.Common.{refl}
use Rattle.user_proofs.proofs.calling.text_for_git.Goals as goal

pub returns : goal.returns
returns c = (c.law_git.ensures.alike c.args.url.now c.law_value.ensures.value (c.if-not-agrees_with_git.ensures.0 refl)).read _ c.in_ok-written.ensures.text

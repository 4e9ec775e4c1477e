-- At the end the window holds all.
use Rattle.git_syntax.proofs.Texts.DecodingLemmas.{all_in_window}
use Rattle.git_syntax.proofs.escape.front.Goals as goal

pub returns-clause-bytes : goal.returns-clause-bytes
returns-clause-bytes c = all_in_window c.loop-byte.window c.loop-byte.rest.now c.args.text.now c.loop-byte.count c.loop-byte.invariant.whole c.in_default.ensures c.loop-byte.invariant.small

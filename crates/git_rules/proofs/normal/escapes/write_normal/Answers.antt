-- At the end nothing is left to be written.
use Rattle.std.proofs.Common.{take}
use Rattle.git_rules.proofs.NormalForms.NormalTextLemmas.{all_normal}
use Rattle.git_rules.proofs.normal.escapes.write_normal.Goals as goal

pub returns-clause-bytes : goal.returns-clause-bytes
returns-clause-bytes c = all_normal (take c.loop-byte.at c.loop-byte.buffer) (take c.args.start c.args.buffer.now) c.loop-byte.rest.now c.args.text.now c.loop-byte.invariant.joined c.in_default.ensures

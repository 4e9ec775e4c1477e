-- A bracket that nothing closes.
use Rattle.std.proofs.Common.{refl}
use Rattle.git_syntax.specs.Flaws.{HasBadHost}
use Rattle.git_syntax.proofs.host.read_bracketed.Goals as goal

pub returns-in-None : goal.returns-in-None
returns-in-None c = HasBadHost.open_bracket c.args.suffix.now c.in-None.ensures refl

use Rattle.std.proofs.Common.{refl}
use Rattle.git_rules.proofs.Entries.KeyLemmas.{no_entry}
use Rattle.git_rules.proofs.config.read_line.Goals as goal

pub returns-in-None : goal.returns-in-None
returns-in-None c = (refl, λ e. no_entry c.args.line.now c.cut_value.result.0.now _ e c.cut_value.ensures.0 c.cut_value.ensures.1 c.in-None.ensures)

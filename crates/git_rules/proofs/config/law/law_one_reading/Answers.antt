use Rattle.git_rules.specs.ConfigItems.{start}
use Rattle.git_rules.proofs.Entries.OneReadingLemmas.{items_unique}
use Rattle.git_rules.proofs.config.law.law_one_reading.Goals as goal

pub returns : goal.returns
returns c = λ text a b. items_unique (start text) a b

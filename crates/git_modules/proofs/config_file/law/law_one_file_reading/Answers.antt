-- The law is a lemma.
use Rattle.git_modules.proofs.ConfigFile.LawLemmas.{one_reading}
use Rattle.git_modules.proofs.config_file.law.law_one_file_reading.Goals as goal

pub returns : goal.returns
returns c = one_reading

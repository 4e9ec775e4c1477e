-- The law, by its lemmas.
use Rattle.git_modules.proofs.Resolved.LawLemmas.{same_place}
use Rattle.git_modules.proofs.Resolved.ScpLemmas.{same_place_of_scp}
use Rattle.git_modules.proofs.resolve.law.law_same_place.Goals as goal

pub returns : goal.returns
returns c = record { url = same_place; scp = same_place_of_scp }

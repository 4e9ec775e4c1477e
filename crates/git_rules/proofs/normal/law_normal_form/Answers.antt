-- The pieces of a text are determined one after the other.
use Rattle.git_rules.proofs.NormalForms.NormalUnique.{normal_unique}
use Rattle.git_rules.proofs.NormalForms.NormalWebLemmas.{place_kept}
use Rattle.git_rules.proofs.normal.law_normal_form.Goals as goal

pub returns : goal.returns
returns c = record { one = normal_unique; place = place_kept }

-- Each law is a lemma.
use Rattle.git_laws.specs.ComponentEquality.{components_decide}
use Rattle.git_laws.proofs.ComponentCuts.CutComponentLemmas.{one_components}
use Rattle.git_laws.proofs.laws.law_components.Goals as goal

pub returns : goal.returns
returns c = record { one = one_components; equal = components_decide }

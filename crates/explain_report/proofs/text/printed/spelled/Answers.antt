use Rattle.std.proofs.Common.{[], ◌∷◌, refl}
use Rattle.explain_report.proofs.Printed.{printed_ascii}
use Rattle.explain_report.proofs.text.printed.spelled.Goals as goal

pub returns-in-0 : goal.returns-in-0
returns-in-0 c = printed_ascii (92 ∷ 48 ∷ []) refl

pub returns-in-9 : goal.returns-in-9
returns-in-9 c = printed_ascii (92 ∷ 116 ∷ []) refl

pub returns-in-10 : goal.returns-in-10
returns-in-10 c = printed_ascii (92 ∷ 110 ∷ []) refl

pub returns-in-13 : goal.returns-in-13
returns-in-13 c = printed_ascii (92 ∷ 114 ∷ []) refl

pub returns-in-92 : goal.returns-in-92
returns-in-92 c = printed_ascii (92 ∷ 92 ∷ []) refl

use Rattle.std.proofs.Common.{[], ◌∷◌, refl}
use Rattle.explain_report.proofs.Printed.{printed_ascii}
use Rattle.explain_report.proofs.text.shell_word.quote.Goals as goal

pub returns-then-is_escaped : goal.returns-then-is_escaped
returns-then-is_escaped c = printed_ascii (92 ∷ 39 ∷ []) refl

pub returns-else-is_escaped : goal.returns-else-is_escaped
returns-else-is_escaped c = printed_ascii (39 ∷ 92 ∷ 39 ∷ 39 ∷ []) refl

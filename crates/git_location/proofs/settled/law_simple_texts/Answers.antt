use Rattle.git_location.proofs.SettledClass.SimpleTextLemmas.{simple_unchanged}
use Rattle.git_location.proofs.settled.law_simple_texts.Goals as goal

pub returns : goal.returns
returns c = record { settled = λ b v h. (simple_unchanged b v h).0; unchanged = λ b v h. (simple_unchanged b v h).1 }

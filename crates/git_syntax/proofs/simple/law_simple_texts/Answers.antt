use Rattle.git_syntax.proofs.ByMasks.SimpleTextLemmas.{simple_spelled}
use Rattle.git_syntax.proofs.simple.law_simple_texts.Goals as goal

pub returns : goal.returns
returns c = record { spelled = simple_spelled }

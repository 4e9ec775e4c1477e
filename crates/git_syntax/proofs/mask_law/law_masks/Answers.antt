use Rattle.git_syntax.proofs.ByMasks.BitLemmas.{has_bit}
use Rattle.git_syntax.proofs.mask_law.law_masks.Goals as goal

pub returns : goal.returns
returns c = record { bits = has_bit }

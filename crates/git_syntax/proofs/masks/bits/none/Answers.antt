-- No bit.
use Rattle.std.proofs.Common.{sym, ◌∙◌}
use Rattle.std.proofs.lemmas.Bool.{eqb-true, eq-eqb}
use Rattle.git_syntax.proofs.ByMasks.BitLemmas.{empty_lacks, lacks_empty}
use Rattle.git_syntax.proofs.masks.bits.none.Goals as goal

pub returns : goal.returns
returns c test text is = (
  λ h. empty_lacks test text (sym is ∙ eqb-true c.args.mask 0 h),
  λ h. eq-eqb c.args.mask 0 (is ∙ lacks_empty test text h),
)

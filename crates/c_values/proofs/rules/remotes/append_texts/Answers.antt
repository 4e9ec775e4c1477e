-- The next text is put after those before it.
use Rattle.std.proofs.Common.{append_assoc, append-nil, arith}
use Rattle.std.proofs.lemmas.List.{map_more}
use Rattle.std.proofs.lemmas.List.Folds.{concat-append}
use Rattle.std.proofs.lemmas.Grind.{common_steps}
use Rattle.c_values.proofs.rules.remotes.append_texts.Goals as goal

pub loop-outcome-preserved : goal.loop-outcome-preserved
loop-outcome-preserved c =
    grind (arith, common_steps, concat-append, map_more, append-nil, append_assoc, c.outcome-item.is, c.loop-outcome.invariant, c.in_ok-append_text.ensures)

-- The next text is put after those before it.
use Rattle.std.proofs.Common.{append-nil, arith}
use Rattle.std.proofs.lemmas.List.{map_more}
use Rattle.std.proofs.lemmas.List.Folds.{concat-append}
use Rattle.std.proofs.lemmas.Grind.{common_steps}
use Rattle.c_values.proofs.rules.pieces.joined.Goals as goal

pub loop-text-preserved : goal.loop-text-preserved
loop-text-preserved c =
    grind (arith, common_steps, concat-append, map_more, append-nil, c.loop-text.invariant, c.in_ok-extend_from_slice.ensures)

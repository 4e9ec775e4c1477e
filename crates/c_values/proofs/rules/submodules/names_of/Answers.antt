-- The next name is put after those before it.
use Rattle.std.proofs.Common.{append-nil, arith}
use Rattle.std.proofs.lemmas.List.{map_more}
use Rattle.std.proofs.lemmas.List.Folds.{concat-append}
use Rattle.std.proofs.lemmas.Grind.{common_steps}
use Rattle.c_values.proofs.rules.submodules.names_of.Goals as goal

pub loop-submodule-preserved : goal.loop-submodule-preserved
loop-submodule-preserved c =
    grind (arith, common_steps, concat-append, map_more, append-nil, c.submodule-item.is, c.submodule.view_is, c.loop-submodule.invariant, c.in_ok-extend_from_slice.ensures)

-- The next word is put after those before it.
use Rattle.std.proofs.Common.{append-nil, arith}
use Rattle.std.proofs.lemmas.List.{map_more}
use Rattle.std.proofs.lemmas.List.Folds.{concat-append}
use Rattle.std.proofs.lemmas.Grind.{common_steps}
use Rattle.c_values.proofs.rules.commands.joined_words.Goals as goal

pub loop-word-preserved : goal.loop-word-preserved
loop-word-preserved c =
    grind (arith, common_steps, concat-append, map_more, append-nil, c.word-item.is, c.as_bytes.ensures, c.loop-word.invariant, c.in_ok-extend_from_slice.ensures)

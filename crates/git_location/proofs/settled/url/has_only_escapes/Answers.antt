-- The number of `%` and the lengths decide.
use Rattle.std.proofs.Common.{arith, eqb-true}
use Rattle.std.proofs.lemmas.Bool.{eq-eqb, ltb-true}
use Rattle.git_location.proofs.SettledClass.SettledLemmas.{second_decides}
use Rattle.git_location.proofs.Writing.PieceLemmas.{escapes_by_length}
use Rattle.git_location.proofs.settled.url.has_only_escapes.Goals as goal

pub returns-then-count-gt0 : goal.returns-then-count-gt0
returns-then-count-gt0 c =
    second_decides _ c.if-count-gt0.true (λ yes. eqb-true _ _ yes, λ same. eq-eqb _ _ same) (escapes_by_length c.args.spelling.now c.args.path.now c.count_percents-count.result c.requires c.count_percents-count.ensures)

pub returns-else-count-gt0 : goal.returns-else-count-gt0
returns-else-count-gt0 c =
    let decides = escapes_by_length c.args.spelling.now c.args.path.now c.count_percents-count.result c.requires c.count_percents-count.ensures in (
      λ yes. absurd (omega (arith, c.if-count-gt0.false, ltb-true _ _ yes)),
      λ all. absurd (omega (arith, c.if-count-gt0.false, (decides.1 all).0)),
    )

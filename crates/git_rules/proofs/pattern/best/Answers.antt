-- Each pattern with its rank, and at the end the best of all.
use Rattle.std.proofs.Common.{arith, subst, None}
use Rattle.git_rules.specs.Patterns.{HasRank, RanksFor}
use Rattle.git_rules.proofs.Matched.RankLemmas.{next, finished}
use Rattle.git_rules.proofs.pattern.best.Goals as goal

pub loop-i-preserved : goal.loop-i-preserved
loop-i-preserved c =
    let Ranks = RanksFor c.args.place.now in
    next Ranks c.args.patterns.now c.loop-i.i c.index-patterns-i.result c.loop-i.best c.better-best.result c.rank_for.result c.loop-i-test.true c.loop-i.invariant (subst (λ t. HasRank Ranks t c.rank_for.result) c.index-patterns-i.is c.rank_for.ensures) c.better-best.ensures

pub returns-in-None : goal.returns-in-None
returns-in-None c = finished (RanksFor c.args.place.now) c.args.patterns.now _ _ None (omega arith) c.in-None.is c.loop-i.invariant

use Rattle.std.proofs.Common.{sym}
use Rattle.std.proofs.lemmas.Bool.{both_ways}
use Rattle.git_rules.specs.RuleTable.{noted}
use Rattle.git_rules.proofs.Rules.RankLemmas.{rank_known, rank_unknown}
use Rattle.git_rules.proofs.rewrite.table.known_rank.Goals as goal

pub returns-then-has_base_at : goal.returns-then-has_base_at
returns-then-has_base_at c =
    λ h. rank_known c.args.rules.now c.args.base.now (noted c.args.ranks.now c.args.base.now) c.in_ok-rank.field-0.now (sym c.in_ok-rank.ensures.value) (c.has_base_at.ensures.0 c.if-has_base_at.true) h

pub returns-else-has_base_at : goal.returns-else-has_base_at
returns-else-has_base_at c =
    λ h. rank_unknown c.args.rules.now c.args.base.now (noted c.args.ranks.now c.args.base.now) c.in_ok-rank.field-0.now (sym c.in_ok-rank.ensures.value) (λ found. both_ways c.has_base_at.result c.if-has_base_at.false (c.has_base_at.ensures.1 found)) h

use Rattle.std.proofs.lemmas.Map.Text.{btree_map_updates_str}
use Rattle.git_rules.proofs.rewrite.table.rank_of.Goals as goal

pub returns-clause-noted : goal.returns-clause-noted
returns-clause-noted c =
    btree_map_updates_str c.args.base.now c.args.ranks.now c.insert.new.self _ c.in_ok-insert.ensures.updates

use Rattle.std.proofs.lemmas.Map.Text.{btree_map_updates_str}
use Rattle.git_modules.proofs.Listed.UseLemmas.{noted_name}
use Rattle.git_modules.proofs.submodules.is_new.Goals as goal

pub returns-clause-noted : goal.returns-clause-noted
returns-clause-noted c =
    noted_name c.args.seen.now c.insert.new.self c.args.name.now (btree_map_updates_str c.args.name.now c.args.seen.now c.insert.new.self _ c.in_ok-insert.ensures.updates)

use Rattle.std.proofs.lemmas.Map.Text.{btree_map_updates_str}
use Rattle.git_modules.proofs.Listed.UseLemmas.{noted_more}
use Rattle.git_modules.proofs.submodules.note_use.Goals as goal

pub returns : goal.returns
returns c =
    noted_more c.args.uses.now c.insert.new.self c.args.name.now c.args.used (btree_map_updates_str c.args.name.now c.args.uses.now c.insert.new.self _ c.in_ok-insert.ensures.updates)

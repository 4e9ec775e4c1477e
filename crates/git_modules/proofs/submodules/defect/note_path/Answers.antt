use Rattle.std.proofs.lemmas.Map.Text.{btree_map_updates_str}
use Rattle.git_modules.proofs.Listed.PathLemmas.{path_noted}
use Rattle.git_modules.proofs.submodules.defect.note_path.Goals as goal

pub returns : goal.returns
returns c =
    path_noted c.args.paths.now c.insert.new.self c.args.path.now c.contains_key-is_noted.result (btree_map_updates_str c.args.path.now c.args.paths.now c.insert.new.self _ c.in_ok-insert.ensures.updates) c.contains_key-is_noted.ensures

-- A submodule more changes the record for its path alone.
use Rattle.std.proofs.Common.{◌∙◌, ap, option_map, sym}
use Rattle.git_modules.specs.SubmoduleInternal.{noted_path}
use Rattle.git_modules.specs.SubmoduleView.{used_value}
use Rattle.git_modules.proofs.Listed.PathLemmas.{paths_more, paths_same}
use Rattle.git_modules.proofs.submodules.defect.paths_of.Goals.{in-Some+in_ok-note_path, in_default}
use Rattle.git_modules.proofs.submodules.defect.paths_of.Goals as goal

pub loop-submodule-preserved : goal.loop-submodule-preserved
loop-submodule-preserved c =
    elim c.match-submodule.branch [
      | in-Some+in_ok-note_path w ↦ λ q.
          ap (λ m. noted_path m q) w.paths-is
          ∙ paths_more c.args.submodules.now c.loop-submodule.submodule-index c.submodule-item.result (used_value w.in-Some.path) c.loop-submodule.paths w.note_path.new.paths c.loop-submodule-test.true c.submodule-item.is (sym (ap (λ s. s.path) c.submodule.view_is) ∙ ap (option_map used_value) w.in-Some.is) c.loop-submodule.invariant w.in_ok-note_path.ensures q
      | in_default w ↦ λ q.
          ap (λ m. noted_path m q) w.paths-is
          ∙ paths_same c.args.submodules.now c.loop-submodule.submodule-index c.submodule-item.result c.loop-submodule.paths c.loop-submodule-test.true c.submodule-item.is (sym (ap (λ s. s.path) c.submodule.view_is) ∙ ap (option_map used_value) w.in_default.is) c.loop-submodule.invariant q
    ]

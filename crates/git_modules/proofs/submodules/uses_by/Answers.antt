-- An entry more changes the value of its submodule alone.
use Rattle.std.proofs.Common.{◌∙◌, Some, ap, bytes_eq, if◌then◌else◌, sym}
use Rattle.git_modules.specs.SubmoduleInternal.{noted_use}
use Rattle.git_modules.specs.SubmoduleView.{used_value}
use Rattle.git_modules.proofs.Listed.UseLemmas.{used_more, used_same}
use Rattle.git_modules.proofs.submodules.uses_by.Goals.{in-Some+in_ok-note_use, in_default}
use Rattle.git_modules.proofs.submodules.uses_by.Goals as goal

pub loop-index-preserved : goal.loop-index-preserved
loop-index-preserved c =
    elim c.match-use_by.branch [
      | in-Some+in_ok-note_use w ↦ λ name.
          ap (λ m. noted_use m name) w.uses-is
          ∙ w.in_ok-note_use.ensures name
          ∙ ap (λ o. if bytes_eq w.in-Some.name.now name then Some (used_value w.in-Some.used) else o) (c.loop-index.invariant name)
          ∙ sym (used_more c.args.key.now c.args.options c.args.entries.now c.loop-index.index c.index-entries-index.result w.in-Some.name.now (used_value w.in-Some.used) c.loop-index-test.true c.index-entries-index.is w.in-Some.ensures name)
      | in_default w ↦ λ name.
          ap (λ m. noted_use m name) w.uses-is
          ∙ c.loop-index.invariant name
          ∙ sym (used_same c.args.key.now c.args.options c.args.entries.now c.loop-index.index c.index-entries-index.result c.loop-index-test.true c.index-entries-index.is w.in_default.ensures name)
    ]

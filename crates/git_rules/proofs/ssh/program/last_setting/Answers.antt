use Rattle.std.proofs.Common.{◌∙◌, ap, option_map, sym}
use Rattle.git_rules.proofs.Programs.SettingLemmas.{setting_more, setting_same}
use Rattle.git_rules.proofs.ssh.program.last_setting.Goals.{then-is_setting, else-is_setting}
use Rattle.git_rules.proofs.ssh.program.last_setting.Goals as goal

pub loop-entry-preserved : goal.loop-entry-preserved
loop-entry-preserved c =
    elim c.if-is_setting.branch [
      | then-is_setting w ↦
          ap (option_map (λ e. e.now)) w.found-is ∙ sym (setting_more c.args.section.now c.args.name.now c.args.entries.now c.loop-entry.entry-index c.entry-item.result c.loop-entry-test.true c.entry-item.is (sym c.is_setting.ensures ∙ w.if-is_setting.true))
      | else-is_setting w ↦
          ap (option_map (λ e. e.now)) w.found-is ∙ c.loop-entry.invariant ∙ sym (setting_same c.args.section.now c.args.name.now c.args.entries.now c.loop-entry.entry-index c.entry-item.result c.loop-entry-test.true c.entry-item.is (sym c.is_setting.ensures ∙ w.if-is_setting.false))
    ]

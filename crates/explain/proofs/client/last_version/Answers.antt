-- An entry of the key is the last one, and another entry changes nothing.
use Rattle.std.proofs.Common.{◌∙◌, ap, codes, option_map, sym}
use Rattle.git_rules.proofs.Programs.SettingLemmas.{setting_more, setting_same}
use Rattle.explain.proofs.client.last_version.Goals.{then-is_version, else-is_version}
use Rattle.explain.proofs.client.last_version.Goals as goal

pub loop-entry-preserved : goal.loop-entry-preserved
loop-entry-preserved c =
    let entries = c.args.entries.now in
    let i = c.loop-entry.entry-index in
    let e = c.entry-item.result in
    elim c.if-is_version.branch [
      | then-is_version w ↦
          ap (option_map (λ e. e.now)) w.found-is ∙ sym (setting_more (codes "protocol") (codes "version") entries i e c.loop-entry-test.true c.entry-item.is (sym c.is_version.ensures ∙ w.if-is_version.true))
      | else-is_version w ↦
          ap (option_map (λ e. e.now)) w.found-is ∙ c.loop-entry.invariant ∙ sym (setting_same (codes "protocol") (codes "version") entries i e c.loop-entry-test.true c.entry-item.is (sym c.is_version.ensures ∙ w.if-is_version.false))
    ]

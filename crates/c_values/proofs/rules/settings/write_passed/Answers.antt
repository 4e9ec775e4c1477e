-- The report for the entries is the report for the passed entries.
use Rattle.std.proofs.Common.{◌∙◌, subst}
use Rattle.c_values.specs.Codes.{UnlessMemory}
use Rattle.c_values.specs.SettingNumbers.{ReportsSettings}
use Rattle.c_values.proofs.rules.settings.write_passed.Goals as goal

pub returns-in-Ok-clause-reported : goal.returns-in-Ok-clause-reported
returns-in-Ok-clause-reported c =
    let new = c.write_settings.new in
    let code = c.write_settings.result in
    subst
    (λ config. UnlessMemory code (ReportsSettings config c.args.name.now c.args.text.now new.built c.args.indices.now new.indices new.stop code))
    (c.deref.ensures.value ∙ c.in-Ok.ensures) c.write_settings.ensures.reported

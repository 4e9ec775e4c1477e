-- The name is the bytes that are passed, which are UTF-8.
use Rattle.std.proofs.Common.{subst}
use mathlib.Core.Logic.{inr}
use Rattle.c_values.specs.Codes.{UnlessMemory}
use Rattle.c_values.specs.Entries.{entries_passed}
use Rattle.c_values.specs.SettingNumbers.{ReportsSettings}
use Rattle.gix_url_c.proofs.rules.settings.gix_url_c_settings.Goals as goal

pub returns-clause-reported : goal.returns-clause-reported
returns-clause-reported c =
    let new = c.write_passed.new in
    let code = c.write_passed.result in
    let config = entries_passed c.args.entries.now in
    inr (
      λ not. not c.in-Ok.ensures.cases.1,
      subst
          (λ name. UnlessMemory code (ReportsSettings config name c.args.text.now new.built c.args.indices.now new.indices new.stop code))
          c.in-Ok.ensures.cases.0 c.write_passed.ensures.reported,
    )

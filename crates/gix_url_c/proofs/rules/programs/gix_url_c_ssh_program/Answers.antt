-- The report for the entries is the report for the passed entries.
use Rattle.std.proofs.Common.{◌∙◌, subst}
use mathlib.Core.Logic.{inr}
use Rattle.c_values.specs.ProgramNumbers.{ReportsProgram, settings_passed}
use Rattle.gix_url_c.proofs.rules.programs.gix_url_c_ssh_program.Goals as goal

pub returns-in-Ok-clause-reported : goal.returns-in-Ok-clause-reported
returns-in-Ok-clause-reported c =
    let new = c.find.new in
    inr (subst
    (λ config. ReportsProgram (settings_passed config c.args.variables.now) new.built c.args.buffer.now new.buffer new.stop c.find.result)
    (c.deref.ensures.value ∙ c.in-Ok.ensures) c.find.ensures.reported)

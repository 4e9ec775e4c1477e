-- The report for the built location is the report for the passed one.
use Rattle.std.proofs.Common.{subst}
use mathlib.Core.Logic.{inr}
use Rattle.c_values.specs.Codes.{UnlessMemory}
use Rattle.c_values.specs.DangerNumbers.{ReportsDangers}
use Rattle.gix_url_c.proofs.rules.dangers.gix_url_c_dangers.Goals as goal

pub returns-in-Some-clause-reported : goal.returns-in-Some-clause-reported
returns-in-Some-clause-reported c =
    let new = c.write_dangers.new in
    let code = c.write_dangers.result in
    inr (
      c.in-Some.ensures.whole,
      subst (λ v. UnlessMemory code (ReportsDangers c.args.text.now v c.args.buffer.now new.buffer new.count code))
          c.in-Some.ensures.built c.write_dangers.ensures.reported,
    )

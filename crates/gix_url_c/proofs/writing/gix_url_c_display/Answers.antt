-- The result for the built location is the result for the passed one.
use Rattle.std.proofs.Common.{subst}
use mathlib.Core.Logic.{inr}
use Rattle.c_values.specs.Answers.{ReportsDisplay}
use Rattle.c_values.specs.Codes.{UnlessMemory}
use Rattle.gix_url_c.proofs.writing.gix_url_c_display.Goals as goal

pub returns-in-Some-clause-reported : goal.returns-in-Some-clause-reported
returns-in-Some-clause-reported c =
    let after = c.show.new in
    inr (
      c.in-Some.ensures.whole,
      subst
          (λ v. UnlessMemory c.show.result (ReportsDisplay v c.args.buffer.now after.buffer after.len after.reported c.show.result))
          c.in-Some.ensures.built c.show.ensures.reported,
    )

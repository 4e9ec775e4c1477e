use Rattle.std.proofs.Common.{◌∙◌}
use Rattle.explain_report.proofs.Joined.{shown_alone}
use Rattle.explain_report.proofs.text.cut.Cut.hidden.Goals as goal

pub returns : goal.returns
returns c = shown_alone c.new-first.result c.mark-empty.result c.mark-empty.ensures ∙ c.new-first.ensures

use Rattle.explain_report.proofs.Printed.{formatted}
use Rattle.explain_report.proofs.text.line.QuotedDisplay.fmt.Goals as goal

pub returns : goal.returns
returns g c = formatted g.W.Write.write_str_gives c.args.f.now c.write_quoted.new.out c.write_quoted.result c.write_quoted.ensures

use Rattle.explain_report.proofs.Printed.{formatted}
use Rattle.explain_report.proofs.text.line.ShownDisplay.fmt.Goals as goal

pub returns : goal.returns
returns g c = formatted g.W.Write.write_str_gives c.args.f.now c.write_text.new.out c.write_text.result c.write_text.ensures

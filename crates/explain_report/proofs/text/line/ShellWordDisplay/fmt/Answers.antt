use Rattle.explain_report.proofs.Printed.{formatted}
use Rattle.explain_report.proofs.text.line.ShellWordDisplay.fmt.Goals as goal

pub returns : goal.returns
returns g c = formatted g.W.Write.write_str_gives c.args.f.now c.write_word.new.out c.write_word.result c.write_word.ensures

-- The text written so far has no control character.
use Rattle.explain_report.specs.Printed.{AddsPrinted}
use Rattle.explain_report.proofs.text.printed.write_quoted.Given as goal

abbrev pub invariant-loop-from : goal.invariant-loop-from
invariant-loop-from g l = AddsPrinted g.W.Write.write_str_gives l.fn.out l.out

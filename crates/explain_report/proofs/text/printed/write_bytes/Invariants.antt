-- The text written so far has no control character.
use Rattle.explain_report.specs.Printed.{AddsPrinted}
use Rattle.explain_report.proofs.text.printed.write_bytes.Given as goal

abbrev pub invariant-loop-byte : goal.invariant-loop-byte
invariant-loop-byte g l = AddsPrinted g.W.Write.write_str_gives l.fn.out l.out

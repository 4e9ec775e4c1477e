-- The text written so far has no control character, nor has the rest of the escape.
use Rattle.std.proofs.Common.{◌≡◌, true}
use Rattle.std.specs.List.{list_all}
use Rattle.std.specs.Char.Iter.{escape_rest}
use Rattle.explain_report.specs.Printed.{AddsPrinted, is_printed}
use Rattle.explain_report.proofs.text.printed.write_number.Given as goal

abbrev pub invariant-loop-it : goal.invariant-loop-it
invariant-loop-it g l = AddsPrinted g.W.Write.write_str_gives l.fn.out l.out × (list_all is_printed (escape_rest l.rest) ≡ true)

-- A character of the label is so exactly if one of those that are left is.
use Rattle.std.proofs.Common.{◌≡◌}
use Rattle.std.specs.List.{list_any}
use Rattle.bstr.specs.Utf8.{lossy_chars}
use Rattle.explain_report.specs.Scripts.{is_drawn_alike}
use Rattle.explain_report.proofs.advice.host_name.has_letter_alike.Given as goal

abbrev pub invariant-loop-character : goal.invariant-loop-character
invariant-loop-character l = list_any is_drawn_alike l.character-iterator ≡ list_any is_drawn_alike (lossy_chars l.fn.label)

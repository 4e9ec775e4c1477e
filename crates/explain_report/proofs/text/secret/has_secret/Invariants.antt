-- A piece of the text is hidden exactly if one of those that are left is.
use Rattle.std.proofs.Common.{◌≡◌}
use Rattle.std.specs.List.{list_any}
use Rattle.explain_report.specs.Secrets.{has_secret, is_hidden}
use Rattle.explain_report.proofs.text.secret.has_secret.Given as goal

abbrev pub invariant-loop-piece : goal.invariant-loop-piece
invariant-loop-piece l = list_any is_hidden l.piece-iterator ≡ has_secret l.fn.text

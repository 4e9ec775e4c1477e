-- The location that is reported beside is the one that the own text spells.
use Rattle.std.proofs.Common.{◌≡◌, ℕ, List, Option, Some, None, Result, Ok, Err, IfOk, IfSome}
use Rattle.gix_url.specs.Location.{Location}
use Rattle.gix_url.specs.Text.{text}
use Rattle.gix_url.specs.Readings.{Reads}
use Rattle.explain_report.specs.declared.difference.Difference.{Difference}
use Rattle.explain_report.specs.declared.difference.Reread.{Reread}
use Rattle.explain_report.specs.Differences.{ReportsField, ReportsReread}
use Rattle.explain_report.proofs.difference.Reread.of_text.Goals as goal

-- the fact of the two locations is one of the first and its text
reports_reread : (v other : Location) (t : List ℕ) → text v ≡ Ok t → Reads t (Ok other)
    → (found : Option Difference) → IfSome found (ReportsField v other) → IfSome found (ReportsReread v)
reports_reread v other t is read None report = report
reports_reread v other t is read (Some it) report = record { bytes = t; other = other; written = is; spelled = read.found; field = report }

-- and so of the result
returns_reread : {E : Type 0} (v other : Location) (t : List ℕ) → text v ≡ Ok t → Reads t (Ok other) → (r : Result Reread E)
    → IfOk r (λ it. IfSome it.difference (ReportsField v other)) → IfOk r (λ it. IfSome it.difference (ReportsReread v))
returns_reread v other t is read (Ok it) report = reports_reread v other t is read it.difference report
returns_reread v other t is read (Err e) report = report

pub returns-in-Ok : goal.returns-in-Ok
returns-in-Ok c = returns_reread c.args.url.now c.in-Ok.other _ c.requires c.in-Ok.ensures _ c.another-another.ensures

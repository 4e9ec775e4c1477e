-- The findings about a line or a run, for which a run may fail.
use Rattle.std.specs.Prelude.{Bool, true, false, ◌||◌, ◌&&◌, Option, Some, None}
use Rattle.explain_report.specs.declared.finding.Findings.{Findings}
use Rattle.std.specs.Borrow.{Bor}
use Rattle.explain_report.specs.declared.rules.transports.Transport.{Transport}
use Rattle.explain_report.specs.declared.rules.transports.Verdict.{Verdict}
use Rattle.explain_report.specs.declared.rules.transports.Verdict.TheVariants as verdict

-- no findings
abbrev pub none : Findings
none = record { danger = false; unsettled = false; refused = false; git_differs = false; policy = false }

-- all findings
abbrev pub all : Findings
all = record { danger = true; unsettled = true; refused = true; git_differs = true; policy = true }

-- the findings in either set
abbrev pub union : Findings → Findings → Findings
union a b = record {
  danger = a.danger || b.danger;
  unsettled = a.unsettled || b.unsettled;
  refused = a.refused || b.refused;
  git_differs = a.git_differs || b.git_differs;
  policy = a.policy || b.policy;
}

-- the sets have a finding in common
abbrev pub meets : Findings → Findings → Bool
meets a b = (a.danger && b.danger) || (a.unsettled && b.unsettled) || (a.refused && b.refused)
    || (a.git_differs && b.git_differs) || (a.policy && b.policy)

-- the verdict is that the transport is used
abbrev pub is_allowed : Verdict → Bool
is_allowed verdict.Allowed = true
is_allowed _ = false

-- there is a transport, and Git uses it
abbrev pub is_used : Option (Bor Transport) → Bool
is_used None = false
is_used (Some transport) = is_allowed transport.now.permission

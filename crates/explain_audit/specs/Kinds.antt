-- The condition for which a finding makes a run fail, and the level of the finding.
use Rattle.std.specs.Prelude.{true}
use Rattle.explain_report.specs.declared.finding.Findings.{Findings}
use Rattle.explain_report.specs.Findings.{none}
use Rattle.explain_audit.specs.declared.kind.Kind.{Kind}
use Rattle.explain_audit.specs.declared.kind.Kind.TheVariants as kind
use Rattle.explain_audit.specs.declared.kind.Level.{Level}
use Rattle.explain_audit.specs.declared.kind.Level.TheVariants as level

-- the condition for which a kind makes a run fail
abbrev pub findings_of : Kind → Findings
findings_of (kind.Danger _) = record none { danger = true }
findings_of (kind.Fsck _) = record none { danger = true }
findings_of (kind.Risk _) = record none { danger = true }
findings_of kind.NoPath = record none { refused = true }
findings_of kind.NoUrl = record none { refused = true }
findings_of kind.SamePath = record none { danger = true }
findings_of kind.ParentHost = record none { danger = true }
findings_of kind.NoParent = record none { unsettled = true }
findings_of (kind.Unresolved _) = record none { refused = true }
findings_of kind.NoLocation = record none { refused = true }
findings_of kind.Unsettled = record none { unsettled = true }
findings_of kind.GitDiffers = record none { git_differs = true }
findings_of kind.Policy = record none { policy = true }

-- the level of a kind
abbrev pub level_of : Kind → Level
level_of (kind.Danger _) = level.Error
level_of (kind.Fsck _) = level.Error
level_of (kind.Risk _) = level.Error
level_of kind.NoPath = level.Error
level_of kind.NoUrl = level.Error
level_of kind.SamePath = level.Error
level_of kind.ParentHost = level.Error
level_of kind.NoParent = level.Warning
level_of (kind.Unresolved _) = level.Error
level_of kind.NoLocation = level.Error
level_of kind.Unsettled = level.Warning
level_of kind.GitDiffers = level.Note
level_of kind.Policy = level.Warning

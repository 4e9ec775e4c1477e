-- The reasons for a report of other readings of a line.
use Rattle.std.specs.Prelude.{◌≡◌, [], IsNone}
use Rattle.explain_report.specs.declared.readers.Readers.{Readers}

-- a condition isn't met, or some reader takes another host
abbrev pub HasReason : Readers → Type 0
HasReason it = IsNone it.condition → ¬ (it.others.items ≡ [])

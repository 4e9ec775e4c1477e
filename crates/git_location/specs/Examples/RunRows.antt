-- Rows of runs that failed.
use Rattle.std.specs.Prelude.{◌≡◌, ℕ, List, [], Some, Err}
use Rattle.std.specs.declared.io.Error.{Error}
use Rattle.git_location.specs.declared.lines.RunError.TheVariants as run
use Rattle.git_location.specs.Answers.{Ran, RanToEnd}

-- a run that a failed allocation ended left the writer unchanged
abbrev pub UnwrittenRow : Type 0
UnwrittenRow = (input old new : List ℕ) → Ran Some (Some input) old new (Err run.Memory) → new ≡ old

-- a run that a fault of the writer ended left nothing of its input
abbrev pub ReadRow : Type 0
ReadRow = (rest : List ℕ) (e : Error) → RanToEnd (Some rest) (Err (run.Write e)) → rest ≡ []

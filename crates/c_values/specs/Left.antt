-- The outputs that an export leaves unchanged if it doesn't return 0.
use Rattle.std.specs.Prelude.{◌≡◌, ℕ, false}
use Rattle.c_values.specs.declared.codes.Problem.{Problem}
use Rattle.c_values.specs.Codes.{ok, no_room, has_problem}

-- unless the call returns 0, the buffer or another place for a result is unchanged
abbrev pub LeavesBuffer : {A : Type 0} → ℕ → A → A → Type 0
LeavesBuffer code old new = ¬ (code ≡ ok) → new ≡ old

-- unless the call returns 0, or the result doesn't fit in the buffer, the lengths are unchanged
abbrev pub LeavesLengths : {A : Type 0} → ℕ → A → A → Type 0
LeavesLengths code old new = ¬ (code ≡ ok) → ¬ (code ≡ no_room) → new ≡ old

-- unless the error may have a problem, the problem is this one
abbrev pub LeavesProblem : ℕ → Problem → Problem → Type 0
LeavesProblem code old new = has_problem code ≡ false → new ≡ old

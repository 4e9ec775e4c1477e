-- The number of the first condition that a location doesn't meet.
use Rattle.std.proofs.Common.{◌≡◌, ℕ, ◌⊎◌, ◌↔◌, Option, Some, None, IsNone, IfSome, refl}
use mathlib.Core.Logic.{inl, inr}
use Rattle.gix_url.specs.Location.{Location}
use Rattle.git_readers.specs.declared.unambiguous.Condition.{Condition}
use Rattle.git_readers.specs.Conditions.{IsFirstUnmet, IsUnambiguous}
use Rattle.c_values.specs.Codes.{condition_number, condition_reported}

-- the number of the result is 0 for a location that meets all conditions, and else that of the first unmet
-- one
pub first_by_number :
    (answer : Option Condition) (v : Location) (n : ℕ) → n ≡ condition_reported answer → (IsNone answer ↔ IsUnambiguous v)
    → IfSome answer (λ unmet. IsFirstUnmet unmet v)
    → ((n ≡ 0) × IsUnambiguous v) ⊎ ((unmet : Condition) × (n ≡ condition_number unmet) × IsFirstUnmet unmet v)
first_by_number None v n is met first = inl (is, met.0 refl)
first_by_number (Some unmet) v n is met first = inr (unmet, is, first)

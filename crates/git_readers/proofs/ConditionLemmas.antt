-- The class by its conditions.
use Rattle.std.proofs.Common.{◌≡◌, true, false, refl}
use Rattle.std.proofs.lemmas.Bool.{both_ways}
use Rattle.git_syntax.specs.Location.{Location}
use Rattle.git_readers.specs.declared.unambiguous.Condition.{Condition}
use Rattle.git_readers.specs.Conditions.{IsUnambiguous, Meets}

-- a location that doesn't meet a condition isn't of the class
pub unmet : (this : Condition) (v : Location) → ¬ Meets this v → (true ≡ false → IsUnambiguous v) × (IsUnambiguous v → true ≡ false)
unmet this v other = (λ wrong. absurd (both_ways true wrong refl), λ all. absurd (other (all this)))

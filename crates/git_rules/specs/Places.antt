-- The normal form of the text of a location.
use Rattle.std.specs.Prelude.{◌≡◌, ℕ, false, List, ◌+◌, ◌*◌, ◌<◌, ◌≤◌, length, Result, Ok, Err}
use Rattle.git_location.specs.declared.write_error.WriteFault.{WriteFault}
use Rattle.git_rules.specs.declared.normal.NormalError.TheVariants.{NoRoom}
use Rattle.git_rules.specs.declared.pattern.place.PlaceError.{PlaceError}
use Rattle.git_rules.specs.declared.pattern.place.PlaceError.TheVariants.{Fault, Normal}
use Rattle.git_rules.specs.Normal.{NormalPlace, IsNormalOf}
use Rattle.git_rules.specs.NormalFlaws.{HasFlaw}

-- the text has this normal form and the buffer suffices; or the buffer is too short, or the text has an error and
-- no normal form
abbrev pub FrontPlacesIn : List ℕ → ℕ → Result NormalPlace PlaceError → Type 0
FrontPlacesIn t buffer_len (Ok n) = (4 * length t + 1 ≤ buffer_len) × IsNormalOf false t n
FrontPlacesIn t buffer_len (Err (Fault fault)) = ⊥
FrontPlacesIn t buffer_len (Err (Normal NoRoom)) = buffer_len < 4 * length t + 1
FrontPlacesIn t buffer_len (Err (Normal flaw)) = (4 * length t + 1 ≤ buffer_len) × HasFlaw false t flaw
    × ((n : NormalPlace) → ¬ IsNormalOf false t n)

-- the normal form of a location's text, in a buffer of this length; or the error of the text or the buffer, or the
-- fault for which the location has no text
abbrev pub PlacesIn : Result (List ℕ) WriteFault → ℕ → Result NormalPlace PlaceError → Type 0
PlacesIn (Ok t) buffer_len result = FrontPlacesIn t buffer_len result
PlacesIn (Err fault) buffer_len result = result ≡ Err (Fault fault)

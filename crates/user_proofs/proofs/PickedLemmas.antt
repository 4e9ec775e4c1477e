-- The normal form of the text of a location: there is one place, and it is found.
use Rattle.std.proofs.Common.{◌≡◌, ℕ, ◌+◌, ◌*◌, ◌≤◌, false, List, length, Ok, Err, subst, arith}
use Rattle.gix_url.specs.Location.{Location}
use Rattle.gix_url.specs.Text.{text}
use Rattle.git_rules.specs.declared.normal.NormalError.TheVariants.{NoRoom, NoUrl, BrokenEscape, NoHost, BadHost, BadPort, AboveRoot}
use Rattle.git_rules.specs.declared.pattern.place.PlaceError.{PlaceError}
use Rattle.git_rules.specs.declared.pattern.place.PlaceError.TheVariants.{Fault, Normal}
use Rattle.git_rules.specs.Normal.{NormalPlace, IsNormalOf}
use Rattle.git_rules.specs.NormalLaws.{OneNormalForm}
use Rattle.git_rules.specs.Places.{FrontPlacesIn, PlacesIn}

-- a text that has a normal form, with a buffer that suffices, is not refused
kept : (t : List ℕ) (buffer_len : ℕ) (e : PlaceError) (place : NormalPlace) → IsNormalOf false t place → 4 * length t + 1 ≤ buffer_len → FrontPlacesIn t buffer_len (Err e) → ⊥
kept t buffer_len (Fault f) place form fits h = h
kept t buffer_len (Normal NoRoom) place form fits h = omega (arith, h, fits)
kept t buffer_len (Normal NoUrl) place form fits h = h.2 place form
kept t buffer_len (Normal BrokenEscape) place form fits h = h.2 place form
kept t buffer_len (Normal NoHost) place form fits h = h.2 place form
kept t buffer_len (Normal BadHost) place form fits h = h.2 place form
kept t buffer_len (Normal BadPort) place form fits h = h.2 place form
kept t buffer_len (Normal AboveRoot) place form fits h = h.2 place form

-- nor is a location with such a text
pub placed : (v : Location) (t : List ℕ) (buffer_len : ℕ) (e : PlaceError) (place : NormalPlace) → text v ≡ Ok t → IsNormalOf false t place → 4 * length t + 1 ≤ buffer_len → PlacesIn (text v) buffer_len (Err e) → ⊥
placed v t buffer_len e place has form fits h = kept t buffer_len e place form fits (subst (λ x. PlacesIn x buffer_len (Err e)) has h)

-- its place is that normal form
pub one_place : OneNormalForm → (v : Location) (t : List ℕ) (buffer_len : ℕ) (own place : NormalPlace) → text v ≡ Ok t → IsNormalOf false t place → PlacesIn (text v) buffer_len (Ok own) → own ≡ place
one_place one v t buffer_len own place has form h = one false t own place (subst (λ x. PlacesIn x buffer_len (Ok own)) has h).1 form

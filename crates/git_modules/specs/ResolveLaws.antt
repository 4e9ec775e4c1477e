-- The part of its parent's location that a relative URL keeps if it doesn't climb.
use Rattle.std.specs.Prelude.{◌≡◌, ℕ, ◌⊎◌, true, false, List, Ok}
use Rattle.git_syntax.specs.Location.{Location}
use Rattle.git_syntax.specs.Bytes.{colon, left_bracket, slash, FreeOf, begins_with}
use Rattle.git_syntax.specs.Grammar.{Spells, SpellsFile, SpellsScpBefore, SpellsUrl}
use Rattle.git_modules.specs.ResolveSteps.{is_relative}
use Rattle.git_modules.specs.Resolve.{Resolution, resolution, resolved_text}
use Rattle.git_modules.specs.ResolveRoots.{climbs}

-- the locations have the same scheme, user, password, host and port
pub record IsSamePlace (v w : Location) : Type 0 where
  pub scheme : w.scheme ≡ v.scheme
  pub user : w.user ≡ v.user
  pub password : w.password ≡ v.password
  pub host : w.host ≡ v.host
  pub port : w.port ≡ v.port

-- for a parent that is a URL and a relative URL that doesn't climb: if the resolved text spells a location, it is
-- at the same place as the parent
abbrev pub SamePlace : Type 0
SamePlace = (parent url : List ℕ) (r : Resolution) (v w : Location)
    → SpellsUrl parent v ⊎ SpellsFile parent v
    → is_relative url ≡ true → climbs parent url ≡ false → resolution parent url ≡ Ok r
    → Spells (resolved_text r) w → IsSamePlace v w

-- for a parent in the scp form without a `[` in its user and host, and a relative URL that doesn't climb: if the
-- resolved text spells a location, and the rest of the resolved URL begins with neither `/` nor `:`, the location is
-- at the same place as the parent
abbrev pub SamePlaceOfScp : Type 0
SamePlaceOfScp = (parent url : List ℕ) (r : Resolution) (v w : Location)
    → (h : SpellsScpBefore parent v) → FreeOf left_bracket h.front
    → begins_with slash r.rest ≡ false → begins_with colon r.rest ≡ false
    → is_relative url ≡ true → climbs parent url ≡ false → resolution parent url ≡ Ok r
    → Spells (resolved_text r) w → IsSamePlace v w

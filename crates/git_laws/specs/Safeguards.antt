-- Laws on settled locations without a password or a spelling.
use Rattle.std.specs.Prelude.{◌≡◌, Bool, true, false, not, ◌⊎◌, ◌↔◌, [], Some, None}
use Rattle.git_syntax.specs.Location.{Scheme, Location, fields}
use Rattle.git_syntax.specs.Location.Scheme.{git, ssh, helper_url}
use Rattle.git_syntax.specs.Bytes.{LacksWhiteSpace}
use Rattle.git_syntax.specs.Escapes.{has_percent}
use Rattle.git_location.specs.Settled.{IsValue, HasFittingText, IsSettled, IsWeb}
pub use Rattle.git_location.specs.Safeguards.{HidesPassword, UsableIsNoOption, PathIsNoOption}
pub use Rattle.git_syntax.specs.Safeguards.{PathSet, PasswordSet, UserSet, DecidesAddresses}

-- ---- settled locations without a field

-- a settled location is settled without its password, unless it has one and an empty user, which is written
-- only with a password
abbrev pub SettledWithoutPassword : Type 0
SettledWithoutPassword = (v : Location) → IsValue v → IsSettled v
    → IsSettled (record v { password = None }) ↔ ((v.password ≡ None) ⊎ ¬ (v.user ≡ Some []))

-- a settled location of HTTP is settled without its spelling
abbrev pub WebSettledWithoutSpelling : Type 0
WebSettledWithoutSpelling = (v : Location) → IsValue v → IsWeb v → IsSettled v → IsSettled (fields v)

-- the kinds whose path is written unescaped without a spelling, and read as URLs: by scheme and
-- alternative-form flag
abbrev pub is_raw_url : Scheme → Bool → Bool
is_raw_url git flag = true
is_raw_url ssh flag = not flag
is_raw_url (helper_url name) flag = true
is_raw_url _ flag = false

-- a location whose path is written unescaped without a spelling, and read as a URL, needs no spelling: its path
-- has neither `%` nor white space, and without a host the text of its public fields is short enough
pub record NeedsNoSpelling (v : Location) : Type 0 where
  pub raw : is_raw_url v.scheme v.flag ≡ true
      → (has_percent v.path ≡ false) × LacksWhiteSpace v.path
  pub fits : is_raw_url v.scheme v.flag ≡ true → v.host ≡ None → HasFittingText (fields v)

-- a settled location is settled without its spelling exactly if it needs none
abbrev pub SettledWithoutSpelling : Type 0
SettledWithoutSpelling = (v : Location) → IsValue v → IsSettled v
    → IsSettled (fields v) ↔ NeedsNoSpelling v

-- Laws on normal forms.
use Rattle.std.specs.Prelude.{◌≡◌, ℕ, Bool, List, Option, Some, None, Ok, option_map, if◌then◌else◌}
use Rattle.percent_encoding.specs.Percent.{percent_encode}
use Rattle.git_syntax.specs.Location.{Location}
use Rattle.git_syntax.specs.Escapes.{user_set}
use Rattle.git_syntax.specs.Schemes.{scheme_text}
use Rattle.git_location.specs.Text.{text}
use Rattle.git_location.specs.Settled.{IsValue, IsWeb}
use Rattle.git_class.specs.WebClass.{AgreesOverWeb}
use Rattle.git_rules.specs.Normal.{NormalPlace, IsNormalOf, is_own_port, normal_text}

-- a text has at most one normal form
abbrev pub OneNormalForm : Type 0
OneNormalForm = (globs : Bool) (text : List ℕ) (n m : NormalPlace) → IsNormalOf globs text n → IsNormalOf globs text m → n ≡ m

-- the normal form of a user as it is written
abbrev pub own_user : Option (List ℕ) → Option (List ℕ)
own_user user = option_map (λ u. normal_text (percent_encode user_set u)) user

-- a port, unless it is the scheme's default port
abbrev pub own_port : List ℕ → Option ℕ → Option ℕ
own_port scheme None = None
own_port scheme (Some port) = if is_own_port scheme port then None else Some port

-- the normal form has the location's own scheme, user, host and port
pub record IsOwnPlace (v : Location) (n : NormalPlace) : Type 0 where
  pub scheme : n.scheme ≡ scheme_text v.scheme
  pub user : n.user ≡ own_user v.user
  pub host : v.host ≡ Some n.host
  pub port : n.port ≡ own_port (scheme_text v.scheme) v.port

-- if an HTTP location `AgreesOverWeb`, the normal form of its text has the location's own scheme, user and host, and
-- its port unless that is the scheme's default port
abbrev pub KeepsPlace : Type 0
KeepsPlace = (globs : Bool) (v : Location) (t : List ℕ) (n : NormalPlace) → IsWeb v → IsValue v → AgreesOverWeb v
    → text v ≡ Ok t → IsNormalOf globs t n → IsOwnPlace v n

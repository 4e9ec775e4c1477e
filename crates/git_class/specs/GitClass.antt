-- The class of locations in whose texts Git reads the same place as this library. Its locations of HTTP are
-- in `WebClass`.
use Rattle.std.specs.Prelude.{◌≡◌, ℕ, Bool, true, false, ◌||◌, ◌==◌, ◌⊎◌, List, [], ◌∷◌, codes, Some, None, IfSome}
use Rattle.percent_encoding.specs.declared.ascii_set.AsciiSet.{AsciiSet}
use Rattle.percent_encoding.specs.AsciiSet.{should_percent_encode}
use Rattle.git_syntax.specs.Location.{Scheme, Location}
use Rattle.git_syntax.specs.Location.Scheme.{file, git, ssh, http, https}
use Rattle.git_syntax.specs.Bytes.{newline, percent_sign, left_bracket, right_bracket, tilde, Lacks, FreeOf, begins_with, is_option_like}
use Rattle.git_syntax.specs.Escapes.{password_set, user_set}
use Rattle.git_location.specs.Settled.{IsSettled}
use Rattle.git_class.specs.WebClass.{AgreesOverWeb}

-- a byte at which Git cuts a text differently: byte 0, `[` or `]`
abbrev pub is_contested : ℕ → Bool
is_contested b = b == 0 || b == left_bracket || b == right_bracket

-- a user or a host without a byte 0, `[` or `]`. Git decodes a URL before it cuts it, so in a URL no byte of it is
-- written as an escape
abbrev pub IsPlainPart : Bool → AsciiSet → List ℕ → Type 0
IsPlainPart true set part = Lacks is_contested part
IsPlainPart false set part = Lacks (should_percent_encode set) part

-- the host of `git://` has brackets of its own: if the location is settled, the host is escaped as a whole, and
-- Git decodes it to an address in brackets before it cuts
abbrev pub IsBracketedOfGit : Location → List ℕ → Type 0
IsBracketedOfGit v host = (v.scheme ≡ git) × (begins_with left_bracket host ≡ true)

-- a plain host, or one of `git://` with brackets of its own
abbrev pub IsHostOfGit : Location → List ℕ → Type 0
IsHostOfGit v host = IsPlainPart v.flag password_set host ⊎ IsBracketedOfGit v host

-- Git cuts the location's own fields out of its text and decodes the path of a URL like this library. The
-- brackets that are written around an address are not part of the host, and Git removes them
pub record HasPlainParts (v : Location) : Type 0 where
  pub user : IfSome v.user (IsPlainPart v.flag user_set)
  pub host : IfSome v.host (IsHostOfGit v)
  pub path : Lacks is_contested v.path

-- neither user nor host nor path begins with `-`
pub record HasNoOption (v : Location) : Type 0 where
  pub user : IfSome v.user (λ u. is_option_like u ≡ false)
  pub host : IfSome v.host (λ h. is_option_like h ≡ false)
  pub path : is_option_like v.path ≡ false

-- the second byte of the text is `~`
abbrev pub is_tilde_second : List ℕ → Bool
is_tilde_second [] = false
is_tilde_second (a ∷ []) = false
is_tilde_second (a ∷ b ∷ rest) = b == tilde

-- the scp form without a user and with the host `rsync`: the text of such a settled location of Secure Shell
-- begins with `rsync:`, which Git refuses
pub record IsRsync (v : Location) : Type 0 where
  pub scp : v.flag ≡ true
  pub no_user : v.user ≡ None
  pub host : v.host ≡ Some (codes "rsync")

-- the conditions of Git's own transports: for `ssh`, the path's second byte is not `~`, the host is not `rsync`
-- without a user, and the user is not empty; for `git`, no user and no end of a line in the path; for `file`,
-- no host, a path that doesn't begin with `~`, and in a URL no `%`, which Git decodes and this library doesn't
abbrev pub SuitsTransport : Scheme → Location → Type 0
SuitsTransport ssh v = (is_tilde_second v.path ≡ false) × (¬ IsRsync v) × ¬ (v.user ≡ Some [])
SuitsTransport git v = (v.user ≡ None) × FreeOf newline v.path
SuitsTransport file v = (v.host ≡ None) × (begins_with tilde v.path ≡ false)
    × (v.flag ≡ false → FreeOf percent_sign v.path)
SuitsTransport _ v = ⊥

-- a location of Git's own transports is of the class
pub record AgreesByTransport (v : Location) : Type 0 where
  pub settled : IsSettled v
  pub no_password : v.password ≡ None
  pub no_option : HasNoOption v
  pub suits : SuitsTransport v.scheme v
  pub plain : HasPlainParts v

-- the location is of the class, by its scheme
abbrev pub AgreesBy : Scheme → Location → Type 0
AgreesBy http v = AgreesOverWeb v
AgreesBy https v = AgreesOverWeb v
AgreesBy _ v = AgreesByTransport v

-- the location is in the class of locations in whose texts Git reads the same place as this library
abbrev pub AgreesWithGit : Location → Type 0
AgreesWithGit v = AgreesBy v.scheme v

-- The home folder in which a path begins, and the path for a shell.
use Rattle.std.specs.Prelude.{◌≡◌, ⊤, ℕ, Bool, MatchBool, true, false, if◌then◌else◌, List, ◌∷◌, Option, Some, None, option_map, string_bytes}
use Rattle.git_syntax.specs.Bytes.{begins_with, lossy_text, slash, tilde}
use Rattle.gix_url.specs.Homes.{ForShell, HomeUser, SplitsHome}
use Rattle.gix_url.specs.HomeOrder.{user_name}
use Rattle.gix_url.specs.Location.{Scheme, Location}
use Rattle.gix_url.specs.Location.Scheme.{file, git, ssh, http, https, ext, helper, helper_url}
use Rattle.explain_report.specs.declared.path.Home.{Home}

-- a server of the scheme reads the path in its file system
abbrev pub is_of_server : Scheme → Bool
is_of_server file = false
is_of_server git = true
is_of_server ssh = true
is_of_server http = false
is_of_server https = false
is_of_server ext = false
is_of_server (helper name) = false
is_of_server (helper_url name) = false

-- the path of the scheme is one in a file system
abbrev pub is_of_files : Scheme → Bool
is_of_files file = true
is_of_files git = true
is_of_files ssh = true
is_of_files http = false
is_of_files https = false
is_of_files ext = false
is_of_files (helper name) = false
is_of_files (helper_url name) = false

-- the path for a shell, or none if the location's path isn't one in a file system
abbrev pub IsShellPath : Location → Option (List ℕ) → Type 0
IsShellPath v None = is_of_files v.scheme ≡ false
IsShellPath v (Some text) = (is_of_files v.scheme ≡ true) × ForShell v.path text

-- the path, with a `/` before a `~` at its front
abbrev pub with_slash : List ℕ → List ℕ
with_slash path = if begins_with tilde path then slash ∷ path else path

-- the home folder of the user and the path below it, as texts; none without a user
abbrev pub ReportsHome : Option HomeUser → List ℕ → Option Home → Type 0
ReportsHome None below None = ⊤
ReportsHome None below (Some home) = ⊥
ReportsHome (Some user) below None = ⊥
ReportsHome (Some user) below (Some home) = (option_map string_bytes home.user ≡ option_map lossy_text (user_name user))
    × (string_bytes home.below ≡ lossy_text below)

-- the home folder in which a path on a server begins, if it begins in one
abbrev pub IsHomeOnServer : List ℕ → Option Home → Type 0
IsHomeOnServer path home = (user : Option HomeUser) × (below : List ℕ)
    × SplitsHome (with_slash path) user below × ReportsHome user below home

-- the home folder in which the location's path begins, if a server reads the path and it begins in one
abbrev pub IsHomeOf : Location → Option Home → Type 0
IsHomeOf v home = MatchBool (is_of_server v.scheme) (IsHomeOnServer v.path home) (home ≡ None)

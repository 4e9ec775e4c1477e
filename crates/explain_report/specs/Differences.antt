-- The report of a location whose text is read differently: a public field, as it is and as it is read. A password is
-- reported as the word `redacted`.
use Rattle.std.specs.Prelude.{◌≡◌, ℕ, Bool, true, false, List, ◌++◌, codes, decimal, bytes_eq, Option, Some, None, option_map, Ok, string_bytes, if◌then◌else◌, ◌||◌, ◌==◌}
use Rattle.git_syntax.specs.Bytes.{colon, left_bracket, right_bracket}
use Rattle.gix_url.specs.Location.{Scheme, Location}
use Rattle.gix_url.specs.Location.Scheme.{file, git, ssh, http, https, ext, helper, helper_url}
use Rattle.gix_url.specs.Bytes.{lossy_text}
use Rattle.gix_url.specs.Schemes.{scheme_text}
use Rattle.gix_url.specs.Grammar.{Spells}
use Rattle.gix_url.specs.Display.{hidden_password}
use Rattle.gix_url.specs.Text.{text}
use Rattle.explain_report.specs.declared.difference.Difference.{Difference}

-- the scheme is a remote helper
abbrev pub is_helper : Scheme → Bool
is_helper file = false
is_helper git = false
is_helper ssh = false
is_helper http = false
is_helper https = false
is_helper ext = true
is_helper (helper name) = true
is_helper (helper_url name) = false

-- the words for a scheme: the word `helper` precedes the name of a remote helper
abbrev pub scheme_words : Scheme → List ℕ
scheme_words p = if is_helper p then codes "helper " ++ scheme_text p else scheme_text p

-- a colon or a bracket
abbrev pub is_mark : ℕ → Bool
is_mark b = b == colon || (b == left_bracket || b == right_bracket)

-- the word for a flag
abbrev pub flag_word : Bool → List ℕ
flag_word true = codes "true"
flag_word false = codes "false"

-- the text that is reported of the public field with this name, if there is such a field and it has a value
abbrev pub field_text : List ℕ → Location → Option (Option (List ℕ))
field_text name v =
    if bytes_eq name (codes "scheme") then Some (Some (scheme_words v.scheme))
    else (if bytes_eq name (codes "user") then Some v.user
    else (if bytes_eq name (codes "password") then Some (hidden_password v.password)
    else (if bytes_eq name (codes "host") then Some v.host
    else (if bytes_eq name (codes "serialize_alternative_form") then Some (Some (flag_word v.flag))
    else (if bytes_eq name (codes "port") then Some (option_map decimal v.port)
    else (if bytes_eq name (codes "path") then Some (Some (lossy_text v.path))
    else None))))))

-- both have the same flag, port and path
abbrev pub HaveSameEnd : Location → Location → Type 0
HaveSameEnd v other = (v.flag ≡ other.flag) × (v.port ≡ other.port) × (v.path ≡ other.path)

-- the difference reports a public field: its texts in the location and in another one
pub record ReportsField (v other : Location) (report : Difference) : Type 0 where
  pub here : field_text report.field.now v ≡ Some (option_map string_bytes report.here)
  pub instead : field_text report.field.now other ≡ Some (option_map string_bytes report.instead)

-- the difference reports a public field: its texts in the location and in the one that the location's text spells
pub record ReportsReread (v : Location) (report : Difference) : Type 0 where
  pub bytes : List ℕ
  pub other : Location
  pub written : text v ≡ Ok bytes
  pub spelled : Spells bytes other
  pub field : ReportsField v other report

-- A location in C's form: numbers, and the bytes of each part.
use Rattle.std.specs.Prelude.{◌≡◌, ℕ, ◌<◌, ◌⊎◌, Bool, true, IsUtf8, ◌==◌, List, Option, Some, None, if◌then◌else◌}
use Rattle.gix_url.specs.Location.{Scheme, Location}
use Rattle.gix_url.specs.Location.Scheme.{file, git, ssh, http, https, ext, helper, helper_url}
use Rattle.c_values.specs.declared.input.PartBytes.{PartBytes}

-- the scheme with a number; two schemes have a name
abbrev pub scheme_numbered : ℕ → List ℕ → Scheme
scheme_numbered n name =
    if n == 0 then file else
    if n == 1 then git else
    if n == 2 then ssh else
    if n == 3 then http else
    if n == 4 then https else
    if n == 5 then ext else
    if n == 6 then helper name else helper_url name

-- the part, if it is there
abbrev pub present : {A : Type 0} → Bool → A → Option A
present is_there a = if is_there then Some a else None

-- the location with these parts
abbrev pub location_of : PartBytes → Location
location_of passed = record {
  scheme = scheme_numbered passed.numbers.scheme passed.name.now;
  user = present passed.numbers.has_user passed.user.now;
  password = present passed.numbers.has_password passed.password.now;
  host = present passed.numbers.has_host passed.host.now;
  flag = passed.numbers.alternative;
  port = present passed.numbers.has_port passed.numbers.port;
  path = passed.path.now;
  spelling = present passed.numbers.has_spelling passed.spelling.now;
}

-- the part is there, and isn't UTF-8
abbrev pub IsNoText : Bool → List ℕ → Type 0
IsNoText is_there bytes = (is_there ≡ true) × (¬ IsUtf8 bytes)

-- no scheme has the number, or the scheme has a name that isn't UTF-8
abbrev pub IsNoScheme : ℕ → List ℕ → Type 0
IsNoScheme n name = (7 < n) ⊎ ((5 < n) × (¬ IsUtf8 name))

-- the parts aren't a location
abbrev pub IsNone : PartBytes → Type 0
IsNone passed =
    IsNoScheme passed.numbers.scheme passed.name.now ⊎ (IsNoText passed.numbers.has_user passed.user.now
    ⊎ (IsNoText passed.numbers.has_password passed.password.now ⊎ IsNoText passed.numbers.has_host passed.host.now))

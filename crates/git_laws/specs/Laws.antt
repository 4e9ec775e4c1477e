-- The laws of the library, over the definitions alone: one definition for each.
use Rattle.std.specs.Prelude.{◌≡◌, ℕ, ◌<◌, Bool, true, false, ◌⊎◌, ◌↔◌, IsTrue, List, [], ◌∷◌, ◌++◌, length, Some, Ok}
use Rattle.std.specs.Ordering.{ordering_then}
use Rattle.std.specs.Hash.{HashWrites}
use Rattle.std.specs.declared.cmp.Ordering.{Ordering}
use Rattle.std.specs.declared.cmp.Ordering.TheVariants.{Equal}
use Rattle.git_syntax.specs.Location.{Scheme, Location, fields, path_alone}
use Rattle.git_syntax.specs.Location.Scheme.{file, git, ssh, ext, helper, helper_url}
use Rattle.git_syntax.specs.Bytes.{colon, left_bracket, begins_with}
use Rattle.git_syntax.specs.Escapes.{has_percent}
use Rattle.git_syntax.specs.Grammar.{IsNeither, ScpForm, IsAddressed, SpellsHelper, SpellsUrl, SpellsFile, SpellsScpBefore, SpellsLocal, Spells}
use Rattle.git_location.specs.Text.{has_colon, text}
use Rattle.git_location.specs.Settled.{IsValue, HasFittingText, IsSettled, IsWeb}
use Rattle.git_location.specs.Readings.{IsAgain}
use Rattle.git_laws.specs.Components.{Components, ComponentsOf}
use Rattle.git_laws.specs.Records.{migrated}
use Rattle.git_laws.specs.Order.{text_cmp, location_cmp, fed_scheme, fed_location}

-- ---- separation

-- no bytes spell two locations
abbrev pub Unique : Type 0
Unique = (b : List ℕ) (v w : Location) → Spells b v → Spells b w → v ≡ w

-- the location has a text, and a location that this text spells has the same fields and the same text
pub record ComesBack (v : Location) : Type 0 where
  pub written : List ℕ
  pub reread : Location
  pub has_text : text v ≡ Ok written
  pub spelled : Spells written reread
  pub same_fields : fields reread ≡ fields v
  pub same_text : text reread ≡ Ok written

-- the text of a settled location spells a settled one
abbrev pub SettledAgain : Type 0
SettledAgain = (v : Location) → IsValue v → IsSettled v
    → (back : ComesBack v) × IsSettled back.reread

-- any location that a settled location's text spells is the location again
abbrev pub ReadAgain : Type 0
ReadAgain = (v w : Location) (t : List ℕ) → IsValue v → IsSettled v → text v ≡ Ok t → Spells t w
    → IsAgain v w

-- settled locations with one text have the same fields
abbrev pub TextDecides : Type 0
TextDecides = (v w : Location) → IsValue v → IsValue w → IsSettled v → IsSettled w → text v ≡ text w
    → fields v ≡ fields w

-- a location that the text of a settled location of HTTP spells has the same components
abbrev pub SameComponents : Type 0
SameComponents = (v w : Location) (t : List ℕ) → IsValue v → IsWeb v → IsSettled v → text v ≡ Ok t
    → Spells t w
    → (components : Components) → ComponentsOf w components ↔ ComponentsOf v components

-- ---- closure

-- the schemes for which every spelled location is settled, with exceptions
abbrev pub is_closed : Scheme → Bool
is_closed git = false
is_closed ssh = false
is_closed (helper_url name) = false
is_closed _ = true

-- the exceptions: hosts that would be written in brackets, and texts that are too long to be read again
pub data IsException (v : Location) : Type 0 where
  -- a host of a file URL with `:` and `%` that doesn't begin with `[`
  file_host : (host : List ℕ) → v.scheme ≡ file → v.host ≡ Some host
      → begins_with left_bracket host ≡ false
      → has_colon host ≡ true → has_percent host ≡ true → IsException v
  -- a host of HTTP with `%` and a `:` at its end that doesn't begin with `[`
  web_host : (front : List ℕ) → IsWeb v → v.host ≡ Some (front ++ colon ∷ [])
      → begins_with left_bracket (front ++ colon ∷ []) ≡ false
      → has_percent (front ++ colon ∷ []) ≡ true → IsException v
  -- a location of HTTP whose text is too long
  web_length : IsWeb v → ¬ HasFittingText v → IsException v

-- a spelled location of local files, HTTP, `ext` or a remote helper is settled or an exception
abbrev pub Closed : Type 0
Closed = (b : List ℕ) (v : Location) → Spells b v → is_closed v.scheme ≡ true
    → IsSettled v ⊎ IsException v

-- an exception, as `IsException` defines it, is not settled
abbrev pub Apart : Type 0
Apart = (v : Location) → IsException v → ¬ IsSettled v

-- a value of local files, HTTP, `ext` or a remote helper whose spelling isn't its path is settled exactly if
-- it is `ComesBack`: its text is read as the same fields and the same text
abbrev pub Exact : Type 0
Exact = (v : Location) → IsValue v → is_closed v.scheme ≡ true → ¬ (v.spelling ≡ Some v.path)
    → IsSettled v ↔ ComesBack v

-- ---- kinds that keep every byte

-- remote helpers and local paths: their text has the path unchanged
abbrev pub keeps_bytes : Scheme → Bool → Bool
keeps_bytes file flag = flag
keeps_bytes ext flag = true
keeps_bytes (helper name) flag = true
keeps_bytes _ flag = false

-- the location is a remote helper or a local path, whose text has the path unchanged
abbrev pub KeepsBytes : Location → Type 0
KeepsBytes v = keeps_bytes v.scheme v.flag ≡ true

-- no bytes spell a location with the fields of an unsettled remote helper, `ext` location or local path
abbrev pub ExactByFields : Type 0
ExactByFields = (v : Location) → KeepsBytes v → (b : List ℕ) (w : Location) → Spells b w
    → fields w ≡ fields v → IsSettled v

-- a location that a remote helper's form or a local path spells is settled, and is written as the bytes that it
-- was read from
abbrev pub Unchanged : Type 0
Unchanged = (b : List ℕ) (v : Location) → SpellsHelper b v ⊎ SpellsLocal b v
    → IsSettled v × (text v ≡ Ok b)

-- ---- spelled locations

-- a spelled location has a text, and migration doesn't change it: its spelling isn't its path
abbrev pub Writable : Type 0
Writable = (b : List ℕ) (v : Location) → Spells b v
    → ((t : List ℕ) × (text v ≡ Ok t)) × ¬ (v.spelling ≡ Some v.path) × (migrated v ≡ v)

-- ---- the earlier grammar

-- a local path in the earlier grammar
pub record SpellsLocalBefore (b : List ℕ) (v : Location) : Type 0 where
  pub nonempty : 0 < length b
  pub neither : IsNeither b
  pub no_scp : (front path : List ℕ) → ¬ ScpForm b front path
  pub value : v ≡ path_alone file true b

-- the bytes spell the location in the earlier grammar, which lacks the form `user@[address]:path`
pub data SpellsBefore (b : List ℕ) (v : Location) : Type 0 where
  url : SpellsUrl b v → SpellsBefore b v
  file_url : SpellsFile b v → SpellsBefore b v
  remote_helper : SpellsHelper b v → SpellsBefore b v
  scp_form : SpellsScpBefore b v → SpellsBefore b v
  local_path : SpellsLocalBefore b v → SpellsBefore b v

-- bytes spell what they spelled in the grammar without `user@[address]:path`; bytes without that form spell nothing
-- else
abbrev pub KeepsEarlier : Type 0
KeepsEarlier = (b : List ℕ) (v : Location)
    → (SpellsBefore b v → Spells b v) × (¬ IsAddressed b → Spells b v → SpellsBefore b v)

-- ---- equality, order and hash

-- equal values are one value
abbrev pub EqualIsSame : {K : Type 0} → (K → K → Bool) → Type 0
EqualIsSame {K} equal = (x y : K) → IsTrue (equal x y) ↔ (x ≡ y)

-- the order returns `Equal` exactly for equal values
abbrev pub TiedIsEqual : {K : Type 0} → (K → K → Bool) → (K → K → Ordering) → Type 0
TiedIsEqual {K} equal order = (x y : K) → (order x y ≡ Equal) ↔ IsTrue (equal x y)

-- equal values feed a hasher alike
abbrev pub FedAlike : {K : Type 0} → (K → K → Bool) → (K → HashWrites) → Type 0
FedAlike {K} equal fed = (x y : K) → IsTrue (equal x y) → fed x ≡ fed y

-- locations that feed a hasher alike are one location
abbrev pub LocationsFedApart : Type 0
LocationsFedApart = (v w : Location) → IsValue v → IsValue w → fed_location v ≡ fed_location w
    → v ≡ w

-- schemes that feed a hasher alike are one scheme
abbrev pub SchemesFedApart : Type 0
SchemesFedApart = (p q : Scheme) → fed_scheme p ≡ fed_scheme q → p ≡ q

-- the public fields decide the order, and the spelling decides only if they are equal
abbrev pub SpellingLast : Type 0
SpellingLast = (v w : Location)
    → location_cmp v w ≡ ordering_then (location_cmp (fields v) (fields w))
    (text_cmp v.spelling w.spelling)

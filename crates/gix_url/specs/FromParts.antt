-- A location from its fields: their text is read, and HTTP keeps the path of the fields.
use Rattle.std.specs.Prelude.{◌≡◌, ℕ, Bool, List, [], ◌∷◌, Option, Some, None, Result, Ok, Err, if◌then◌else◌}
use Rattle.bstr.specs.declared.bstring.BString.{BString}
use Rattle.bstr.specs.Owned.{bstring_bytes}
use Rattle.gix_url.specs.declared.error.Error.{Error}
use Rattle.gix_url.specs.declared.error.Error.TheVariants as error
use Rattle.git_location.specs.declared.write_error.WriteFault.{WriteFault}
use Rattle.git_syntax.specs.Location.{Scheme, Location}
use Rattle.git_syntax.specs.Location.Scheme.{http, https, helper}
use Rattle.git_syntax.specs.Bytes.{is_helper_name}
use Rattle.git_location.specs.Text.{text}
use Rattle.git_location.specs.Settled.{IsSettled}
use Rattle.gix_url.specs.Readings.{Reads}

-- the location with these seven fields, and no spelling
abbrev pub of_parts : Scheme → Option (List ℕ) → Option (List ℕ) → Option (List ℕ) → Option ℕ
    → List ℕ → Bool → Location
of_parts named user password host port path flag = record {
  scheme = named;
  user = user;
  password = password;
  host = host;
  flag = flag;
  port = port;
  path = path;
  spelling = None;
}

-- the name of a remote helper, if it isn't a valid one
abbrev pub invalid_name : Scheme → Option (List ℕ)
invalid_name (helper name) = if is_helper_name name then None else Some name
invalid_name _ = None

-- the error has the name
abbrev pub ReportsName : List ℕ → Error → Type 0
ReportsName name e = (reported : BString) × (e ≡ error.HelperName reported) × (bstring_bytes reported ≡ name)

-- the first path, or the other one if it is empty
abbrev pub given_or : List ℕ → List ℕ → List ℕ
given_or [] other = other
given_or (b ∷ bs) other = b ∷ bs

-- the location that was read, with this path and no spelling
abbrev pub with_kept_path : List ℕ → Location → Location
with_kept_path path read = record read { path = given_or path read.path; spelling = None }

-- the location that was read from the text of fields with this scheme and this path: HTTP keeps the path
abbrev pub keeping : Scheme → List ℕ → Location → Location
keeping http path read = with_kept_path path read
keeping https path read = with_kept_path path read
keeping _ path read = read

-- the result of reading the text of fields, with their path if it is kept
abbrev pub ReadsKept : Location → List ℕ → Result Location Error → Type 0
ReadsKept input b (Ok v) = (read : Location) × Reads b (Ok read)
    × (v ≡ keeping input.scheme input.path read)
ReadsKept input b (Err e) = Reads b (Err e)

-- the result for settled fields: these fields, or a failed allocation
abbrev pub GivesBack : Location → Result Location Error → Type 0
GivesBack input (Ok v) = v ≡ input
GivesBack input (Err e) = e ≡ error.Memory

-- the result of building a location from fields
pub record BuiltFrom (input : Location) (result : Result Location Error) : Type 0 where
  -- a name of a remote helper that isn't valid is refused, and reported
  pub helper_name : (name : List ℕ) → invalid_name input.scheme ≡ Some name
      → (e : Error) × (result ≡ Err e) × ReportsName name e
  -- otherwise, if the fields have no text, the fault is returned
  pub fault : invalid_name input.scheme ≡ None → (f : WriteFault) → text input ≡ Err f
      → result ≡ Err (error.Unwritable f)
  -- otherwise the text of the fields is read
  pub read : (t : List ℕ) → text input ≡ Ok t → ReadsKept input t result
  -- settled fields are returned unchanged
  pub settled : IsSettled input → GivesBack input result

-- A location as C gets it: numbers, and the bytes of all parts one after the other.
use Rattle.std.specs.Prelude.{◌≡◌, ℕ, Bool, true, false, MatchBool, nat_lt, ◌||◌, List, [], ◌++◌, length, drop, Option, Some, None}
use Rattle.gix_url.specs.Location.{Scheme, Location}
use Rattle.gix_url.specs.Location.Scheme.{file, git, ssh, http, https, ext, helper, helper_url}
use Rattle.c_values.specs.declared.input.LocationNumbers.{LocationNumbers}
use Rattle.c_values.specs.declared.output.PartLengths.{PartLengths}
use Rattle.c_values.specs.Codes.{ok, no_room}

-- the number of a scheme
abbrev pub scheme_number : Scheme → ℕ
scheme_number file = 0
scheme_number git = 1
scheme_number ssh = 2
scheme_number http = 3
scheme_number https = 4
scheme_number ext = 5
scheme_number (helper name) = 6
scheme_number (helper_url name) = 7

-- the name that a scheme has, or an empty one
abbrev pub scheme_name : Scheme → List ℕ
scheme_name file = []
scheme_name git = []
scheme_name ssh = []
scheme_name http = []
scheme_name https = []
scheme_name ext = []
scheme_name (helper name) = name
scheme_name (helper_url name) = name

-- a part, or an empty one
abbrev pub or_nothing : Option (List ℕ) → List ℕ
or_nothing None = []
or_nothing (Some part) = part

-- a port, or 0
abbrev pub or_zero : Option ℕ → ℕ
or_zero None = 0
or_zero (Some port) = port

-- whether it is there
abbrev pub is_there : {A : Type 0} → Option A → Bool
is_there None = false
is_there (Some a) = true

-- the numbers of a location
abbrev pub location_numbers : Location → LocationNumbers
location_numbers v = record {
  scheme = scheme_number v.scheme;
  alternative = v.flag;
  has_user = is_there v.user;
  has_password = is_there v.password;
  has_host = is_there v.host;
  has_port = is_there v.port;
  has_spelling = is_there v.spelling;
  port = or_zero v.port;
}

-- the numbers of a location, and the lengths of its parts
abbrev pub part_lengths : Location → PartLengths
part_lengths v = record {
  numbers = location_numbers v;
  name = length (scheme_name v.scheme);
  user = length (or_nothing v.user);
  password = length (or_nothing v.password);
  host = length (or_nothing v.host);
  path = length v.path;
  spelling = length (or_nothing v.spelling);
}

-- the bytes of its parts, one after the other
abbrev pub bytes_of : Location → List ℕ
bytes_of v = ((((scheme_name v.scheme ++ or_nothing v.user) ++ or_nothing v.password) ++ or_nothing v.host) ++ v.path) ++ or_nothing v.spelling

-- the bytes are at the front of the buffer, and the rest is unchanged; or they don't fit, and the buffer is unchanged
abbrev pub Puts : {A : Type 0} → List A → List A → List A → ℕ → Type 0
Puts bytes old new code =
    MatchBool (nat_lt (length old) (length bytes))
    ((code ≡ no_room) × (new ≡ old))
    ((code ≡ ok) × (new ≡ bytes ++ drop (length bytes) old))

-- both lists are at the fronts of their buffers; or one doesn't fit, and both buffers are unchanged
abbrev pub PutsBoth : List ℕ → List ℕ → List ℕ → List ℕ → List ℕ → List ℕ → ℕ → Type 0
PutsBoth bytes lengths old_buffer new_buffer old_lengths new_lengths code =
    MatchBool (nat_lt (length old_buffer) (length bytes) || nat_lt (length old_lengths) (length lengths))
    ((code ≡ no_room) × (new_buffer ≡ old_buffer) × (new_lengths ≡ old_lengths))
    ((code ≡ ok) × (new_buffer ≡ bytes ++ drop (length bytes) old_buffer) × (new_lengths ≡ lengths ++ drop (length lengths) old_lengths))

-- the location is returned
abbrev pub Returns : Location → PartLengths → List ℕ → List ℕ → ℕ → Type 0
Returns v built old new code = (built ≡ part_lengths v) × Puts (bytes_of v) old new code

-- Equality, order and hash of schemes and of locations: field by field in declared order, texts by their bytes.
use Rattle.std.specs.Prelude.{ℕ, Bool, cond, ◌&&◌, nat_eq, List, [], ◌∷◌, ◌++◌, length, bytes_eq, Option, Some, None, is_some}
use Rattle.std.specs.Option.{option_eq, option_cmp}
use Rattle.std.specs.declared.cmp.Ordering.{Ordering}
use Rattle.std.specs.Ordering.{nat_cmp, bool_cmp, on, then_cmp}
use Rattle.std.specs.Cmp.Lexicographic.{slice_cmp}
use Rattle.std.specs.Hash as fed
use Rattle.std.specs.Hash.{HashWrites}
use mathlib.Core.Bool.{beq}
use Rattle.git_syntax.specs.Location.{Scheme, Location}
use Rattle.git_syntax.specs.Location.Scheme.{file, git, ssh, http, https, ext, helper, helper_url}

-- the index of a scheme's kind in the order of declaration
abbrev pub rank : Scheme → ℕ
rank file = 0
rank git = 1
rank ssh = 2
rank http = 3
rank https = 4
rank ext = 5
rank (helper name) = 6
rank (helper_url name) = 7

-- the name in a scheme, if its kind has one
abbrev pub held_name : Scheme → Option (List ℕ)
held_name (helper name) = Some name
held_name (helper_url name) = Some name
held_name _ = None

-- ---- equality

-- texts that may be missing are equal if both are missing, or both are there with the same bytes
abbrev pub text_eq : Option (List ℕ) → Option (List ℕ) → Bool
text_eq = option_eq bytes_eq

-- schemes are equal if their kinds and their names are
abbrev pub scheme_eq : Scheme → Scheme → Bool
scheme_eq p q = nat_eq (rank p) (rank q) && text_eq (held_name p) (held_name q)

-- locations are equal if all eight fields are
abbrev pub location_eq : Location → Location → Bool
location_eq v w =
    scheme_eq v.scheme w.scheme
    && (text_eq v.user w.user && (text_eq v.password w.password && (text_eq v.host w.host
    && (beq v.flag w.flag
    && (option_eq nat_eq v.port w.port
    && (bytes_eq v.path w.path && text_eq v.spelling w.spelling))))))

-- ---- order

-- bytes are ordered by the first that differs, and a text comes after its own front
abbrev pub bytes_cmp : List ℕ → List ℕ → Ordering
bytes_cmp = slice_cmp nat_cmp

-- a missing text comes before any other
abbrev pub text_cmp : Option (List ℕ) → Option (List ℕ) → Ordering
text_cmp = option_cmp bytes_cmp

-- schemes are ordered by their kinds as declared, and then by their names
abbrev pub scheme_cmp : Scheme → Scheme → Ordering
scheme_cmp = then_cmp (on rank nat_cmp) (on held_name text_cmp)

-- locations are ordered by the first field that differs, in declared order, the retained spelling last
abbrev pub location_cmp : Location → Location → Ordering
location_cmp =
    then_cmp (on (λ v. v.scheme) scheme_cmp)
    (then_cmp (on (λ v. v.user) text_cmp) (then_cmp (on (λ v. v.password) text_cmp)
    (then_cmp (on (λ v. v.host) text_cmp)
    (then_cmp (on (λ v. v.flag) bool_cmp) (then_cmp (on (λ v. v.port) (option_cmp nat_cmp))
    (then_cmp (on (λ v. v.path) bytes_cmp) (on (λ v. v.spelling) text_cmp)))))))

-- ---- hash

-- a truth value as a byte
abbrev pub as_byte : Bool → ℕ
as_byte b = cond b 1 0

-- whether a field is there, as a byte
abbrev pub there : {K : Type 0} → Option K → ℕ
there p = as_byte (is_some p)

-- bytes feed a hasher their length, and then all bytes at once
abbrev pub fed_bytes : List ℕ → HashWrites
fed_bytes bs = fed.usize (length bs) ++ (bs ∷ [])

-- an optional value feeds a hasher like the value itself, or nothing
abbrev pub fed_part : {K : Type 0} → (K → HashWrites) → Option K → HashWrites
fed_part feed None = []
fed_part feed (Some x) = feed x

-- an optional text feeds a hasher its bytes, and then 255, which is not in UTF-8
abbrev pub fed_text : Option (List ℕ) → HashWrites
fed_text = fed_part fed.str

-- a scheme feeds a hasher its kind, and its name if the kind has one
abbrev pub fed_scheme : Scheme → HashWrites
fed_scheme p = fed.u8 (rank p) ++ fed_text (held_name p)

-- a byte for each of the eight fields: the kind of the scheme, the flag, and whether each other field is there,
-- as the path always is
abbrev pub outline : Location → List ℕ
outline v =
    rank v.scheme ∷ there v.user ∷ there v.password ∷ there v.host
    ∷ as_byte v.flag ∷ there v.port ∷ 1 ∷ there v.spelling ∷ []

-- a location feeds a hasher its outline, and then the contents of its fields, in declared order
abbrev pub fed_location : Location → HashWrites
fed_location v =
    outline v ∷ (fed_text (held_name v.scheme) ++ (fed_text v.user ++ (fed_text v.password
    ++ (fed_text v.host ++ (fed_part fed.u16 v.port ++
    (fed_bytes v.path ++ fed_part fed_bytes v.spelling))))))

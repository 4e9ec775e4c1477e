-- The components of a location's path: over HTTP, a path, a query and a fragment.
use Rattle.std.specs.Prelude.{◌≡◌, ℕ, ◌==◌, List, [], ◌∷◌, ◌++◌, map, All, Option, Some, None, option_map, if◌then◌else◌}
use Rattle.std.specs.List.{join_with_byte}
use Rattle.percent_encoding.specs.Percent.{percent_decode}
use Rattle.git_syntax.specs.Location.{Scheme, Location}
use Rattle.git_syntax.specs.Location.Scheme.{http, https}
use Rattle.git_syntax.specs.Bytes.{space, number_sign, ampersand, plus_sign, equals_sign, question_mark, FreeOf}
use Rattle.git_syntax.specs.Escapes.{matches}
use Rattle.git_syntax.specs.Grammar.{or_root}
use Rattle.git_location.specs.Text.{original_path}

-- a path, the names and values of a query, and a fragment, all decoded
pub record Components : Type 0 where
  pub path : List ℕ
  pub query : Option (List (List ℕ × List ℕ))
  pub fragment : Option (List ℕ)

-- the meaning of a piece of the original path: its decoding if that is a spelling, and else the piece itself
abbrev pub stands_for : Location → List ℕ → List ℕ
stands_for v piece = if matches v.spelling v.path then percent_decode piece else piece

-- ---- the cuts

-- a text is cut at its first c: the text before it, and the text after it, if there is one
abbrev pub CutsText : ℕ → List ℕ → List ℕ → Option (List ℕ) → Type 0
CutsText c text front None = FreeOf c text × (front ≡ text)
CutsText c text front (Some suffix) = FreeOf c front × (text ≡ front ++ c ∷ suffix)

-- the fragment follows the first `#`, and the query the first `?` before that
abbrev pub CutsPath : List ℕ → List ℕ → Option (List ℕ) → Option (List ℕ) → Type 0
CutsPath text front query fragment = (middle : List ℕ) × CutsText number_sign text middle fragment
    × CutsText question_mark middle front query

-- the text is fields without `&`, joined by `&`
pub record CutsFields (text : List ℕ) (fields : List (List ℕ)) : Type 0 where
  pub each : All (FreeOf ampersand) fields
  pub joined : text ≡ join_with_byte ampersand fields

-- a field is a name, or a name, `=` and a value
pub data SplitsField (field name value : List ℕ) : Type 0 where
  name_alone : FreeOf equals_sign field → name ≡ field → value ≡ [] → SplitsField field name value
  with_value : FreeOf equals_sign name → field ≡ name ++ equals_sign ∷ value
      → SplitsField field name value

-- ---- the meaning of the pieces

-- each raw `+` is a space
abbrev pub with_spaces : List ℕ → List ℕ
with_spaces piece = map (λ b. if b == plus_sign then space else b) piece

-- the meaning of a name or a value
abbrev pub term_of : Location → List ℕ → List ℕ
term_of v piece = stands_for v (with_spaces piece)

-- the names and values of the fields, in order; empty fields are skipped
abbrev pub PairsOf : Location → List (List ℕ) → List (List ℕ × List ℕ) → Type 0
PairsOf v [] pairs = pairs ≡ []
PairsOf v ([] ∷ fields) pairs = PairsOf v fields pairs
PairsOf v ((b ∷ bs) ∷ fields) pairs =
    (name : List ℕ) × (value : List ℕ) × (others : List (List ℕ × List ℕ))
    × SplitsField (b ∷ bs) name value × PairsOf v fields others
    × (pairs ≡ (term_of v name, term_of v value) ∷ others)

-- the names and values of the query, if there is one
abbrev pub QueryOf : Location → Option (List ℕ) → Option (List (List ℕ × List ℕ)) → Type 0
QueryOf v None query = query ≡ None
QueryOf v (Some text) query =
    (fields : List (List ℕ)) × (pairs : List (List ℕ × List ℕ)) × CutsFields text fields
    × PairsOf v fields pairs × (query ≡ Some pairs)

-- ---- the components

-- the components of a location of HTTP: an empty front is the root
pub record WebComponents (v : Location) (components : Components) : Type 0 where
  pub front : List ℕ
  pub query : Option (List ℕ)
  pub fragment : Option (List ℕ)
  pub cut : CutsPath (original_path v) front query fragment
  pub path_denoted : components.path ≡ or_root (stands_for v front)
  pub query_denoted : QueryOf v query components.query
  pub fragment_denoted : components.fragment ≡ option_map (stands_for v) fragment

-- the components of any other path: the path only
abbrev pub whole_path : List ℕ → Components
whole_path text = record { path = text; query = None; fragment = None }

-- the components of a location, by its scheme
abbrev pub ComponentsBy : Scheme → Location → Components → Type 0
ComponentsBy http v components = WebComponents v components
ComponentsBy https v components = WebComponents v components
ComponentsBy _ v components = components ≡ whole_path v.path

-- these are the components of the location
abbrev pub ComponentsOf : Location → Components → Type 0
ComponentsOf v components = ComponentsBy v.scheme v components

-- The components that the code returns, as contracts see them: their bytes, and which of them are borrowed.
use Rattle.std.specs.Prelude.{◌≡◌, ℕ, Bool, true, false, List, [], ◌∷◌, map, Option, Some, None, option_map}
use Rattle.bstr.specs.BStr.{bstr_bytes}
use Rattle.bstr.specs.Owned.{bstring_bytes}
use Rattle.gix_url.specs.declared.components.PathComponents.{PathComponents}
use Rattle.gix_url.specs.declared.components.QueryText.{QueryText}
use Rattle.gix_url.specs.declared.components.QueryText.TheVariants.{Borrowed, Owned}
use Rattle.git_syntax.specs.Bytes.{plus_sign, FreeOf, Holds}
use Rattle.git_syntax.specs.Location.{Location}
use Rattle.git_laws.specs.Components.{Components, CutsPath, CutsFields, SplitsField}
use Rattle.git_location.specs.Text.{original_path}

-- the bytes of a name or a value
abbrev pub text_bytes : QueryText → List ℕ
text_bytes (Borrowed text) = bstr_bytes text
text_bytes (Owned text) = bstring_bytes text

-- the name or the value is borrowed
abbrev pub is_borrowed : QueryText → Bool
is_borrowed (Borrowed text) = true
is_borrowed (Owned text) = false

-- the bytes of a name and of its value
abbrev pub pair_bytes : QueryText × QueryText → List ℕ × List ℕ
pair_bytes pair = (text_bytes pair.0, text_bytes pair.1)

-- whether the name and whether the value is borrowed
abbrev pub pair_borrowed : QueryText × QueryText → Bool × Bool
pair_borrowed pair = (is_borrowed pair.0, is_borrowed pair.1)

-- which names and which values of the query are borrowed, in order, if there is a query; a path and a fragment
-- always are
abbrev pub what_is_borrowed : PathComponents → Option (List (Bool × Bool))
what_is_borrowed parts = option_map (λ pairs. map pair_borrowed pairs.items) parts.query

-- the components that a `PathComponents` represents
abbrev pub components : PathComponents → Components
components parts = record {
  path = bstr_bytes parts.path;
  query = option_map (λ pairs. map pair_bytes pairs.items) parts.query;
  fragment = option_map bstr_bytes parts.fragment;
}

-- a name or a value of the query: an owned text exactly if the piece that was cut out has a raw `+`, and else
-- borrowed, so that its bytes are in the path
abbrev pub BorrowedTerm : Location → List ℕ → QueryText → Type 0
BorrowedTerm v piece (Borrowed text) = FreeOf plus_sign piece × Holds (bstr_bytes text) v.path
BorrowedTerm v piece (Owned text) = ¬ FreeOf plus_sign piece

-- the names and values of these fields, in order; empty fields have none
abbrev pub BorrowedPairs : Location → List (List ℕ) → List (QueryText × QueryText) → Type 0
BorrowedPairs v [] pairs = pairs ≡ []
BorrowedPairs v ([] ∷ fields) pairs = BorrowedPairs v fields pairs
BorrowedPairs v ((b ∷ bs) ∷ fields) pairs =
    (name : List ℕ) × (value : List ℕ) × (pair : QueryText × QueryText)
    × (others : List (QueryText × QueryText))
    × SplitsField (b ∷ bs) name value × BorrowedTerm v name pair.0 × BorrowedTerm v value pair.1
    × BorrowedPairs v fields others × (pairs ≡ pair ∷ others)

-- the names and values of the query of a location's original path
pub record BorrowedFields (v : Location) (pairs : List (QueryText × QueryText)) : Type 0 where
  pub front : List ℕ
  pub query : List ℕ
  pub fragment : Option (List ℕ)
  pub fields : List (List ℕ)
  pub cut : CutsPath (original_path v) front (Some query) fragment
  pub split : CutsFields query fields
  pub borrowed : BorrowedPairs v fields pairs

-- the names and values of the query, if there is a query, are those of the location's original path; each is
-- borrowed unless its piece has a raw `+`
abbrev pub BorrowedQuery : Location → Option (List (QueryText × QueryText)) → Type 0
BorrowedQuery v None = Unit {0}
BorrowedQuery v (Some pairs) = BorrowedFields v pairs

-- Components as C gets them: numbers, and the bytes of all of them one after the other.
use Rattle.std.specs.Prelude.{◌≡◌, ℕ, List, [], ◌∷◌, ◌++◌, length, Option, Some, None}
use Rattle.gix_url.specs.Location.{Location}
use Rattle.gix_url.specs.Components.{Components, ComponentsOf}
use Rattle.c_values.specs.declared.components.ComponentNumbers.{ComponentNumbers}
use Rattle.c_values.specs.Output.{PutsBoth, is_there, or_nothing}

-- the names and values; none without a query
abbrev pub pairs_of : Option (List (List ℕ × List ℕ)) → List (List ℕ × List ℕ)
pairs_of None = []
pairs_of (Some pairs) = pairs

-- the bytes of a name and its value
abbrev pub joined_pair : List ℕ × List ℕ → List ℕ
joined_pair pair = pair.0 ++ pair.1

-- the lengths of a name and its value
abbrev pub lengths_of_pair : List ℕ × List ℕ → List ℕ
lengths_of_pair pair = length pair.0 ∷ length pair.1 ∷ []

-- the bytes of names and values, in order
abbrev pub joined_pairs : List (List ℕ × List ℕ) → List ℕ
joined_pairs [] = []
joined_pairs (pair ∷ pairs) = joined_pair pair ++ joined_pairs pairs

-- the lengths of names and values, in order
abbrev pub pair_lengths : List (List ℕ × List ℕ) → List ℕ
pair_lengths [] = []
pair_lengths (pair ∷ pairs) = lengths_of_pair pair ++ pair_lengths pairs

-- the bytes of the path, the fragment, and all names and values
abbrev pub component_bytes : Components → List ℕ
component_bytes c = (c.path ++ or_nothing c.fragment) ++ joined_pairs (pairs_of c.query)

-- the numbers of components
abbrev pub component_numbers : Components → ComponentNumbers
component_numbers c = record {
  has_query = is_there c.query;
  has_fragment = is_there c.fragment;
  path = length c.path;
  fragment = length (or_nothing c.fragment);
  pairs = length (pairs_of c.query);
  bytes = length (component_bytes c);
}

-- the components of the location are reported
abbrev pub ReportsComponents : Location → ComponentNumbers → List ℕ → List ℕ → List ℕ → List ℕ → ℕ → Type 0
ReportsComponents v reported old_buffer new_buffer old_lengths new_lengths code =
    (c : Components) × ComponentsOf v c × (reported ≡ component_numbers c)
    × PutsBoth (component_bytes c) (pair_lengths (pairs_of c.query)) old_buffer new_buffer old_lengths new_lengths code

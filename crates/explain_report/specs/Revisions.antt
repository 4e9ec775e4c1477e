-- The parts of a location that may name a revision.
use Rattle.std.specs.Prelude.{ℕ, Bool, false, ◌||◌, codes, List, [], ◌∷◌, Option, Some, None, option_map, string_bytes}
use Rattle.std.specs.List.{list_any}
use Rattle.std.specs.Option.{is_some}
use Rattle.explain_report.specs.declared.path.Components.{Components}
use Rattle.explain_report.specs.declared.path.Field.{Field}
use Rattle.explain_report.specs.Marks.{is_among}

-- the names of the fields of a query that name a revision
abbrev pub revision_names : List (List ℕ)
revision_names = codes "ref" ∷ codes "rev" ∷ codes "tag" ∷ codes "branch" ∷ codes "commit" ∷ codes "version" ∷ []

-- the field names a revision
abbrev pub is_of_revision : Field → Bool
is_of_revision field = is_among revision_names (string_bytes field.name)

-- there are fields, and one of them names a revision
abbrev pub some_is_of_revision : Option (List Field) → Bool
some_is_of_revision None = false
some_is_of_revision (Some fields) = list_any is_of_revision fields

-- there is a fragment, or a field of the query that names a revision
abbrev pub has_revision : Components → Bool
has_revision parts = is_some parts.fragment || some_is_of_revision (option_map (λ fields. fields.items) parts.query)

-- The submodules of a `.gitmodules` file, by its entries (`parse_config` in `submodule-config.c` of Git 2.39.5).
use Rattle.std.specs.Prelude.{ℕ, Bool, true, false, not, ◌&&◌, ◌||◌, bytes_eq, codes, List, [], ◌∷◌, filter, filter_map, map, Option, Some, None, is_some, option_map, option_and_then, if◌then◌else◌}
use Rattle.std.specs.List.{enumerate_from, last_or, list_any, slice_split}
use Rattle.git_syntax.specs.Bytes.{is_option_like, is_any_slash}
use Rattle.git_rules.specs.Config.{ConfigEntry, has_name, is_of_section}

-- a value that Git uses, and the index of its entry
pub record UsedValue : Type 0 where
  pub value : List ℕ
  pub index : ℕ

-- a submodule as plain values
pub record GitSubmodule : Type 0 where
  pub name : List ℕ
  pub path : Option UsedValue
  pub url : Option UsedValue
  pub update : Option UsedValue
  pub branch : Option UsedValue

-- ---- names

-- a component of the text is this one
abbrev pub has_component : List ℕ → List ℕ → Bool
has_component component t = list_any (λ part. bytes_eq part component) (slice_split is_any_slash t)

-- a name that Git refuses: an empty one, or one with a component `..`
abbrev pub is_refused_name : List ℕ → Bool
is_refused_name name = bytes_eq name [] || has_component (codes "..") name

-- the section of submodules
abbrev pub submodule_section : List ℕ
submodule_section = codes "submodule"

-- the name of the submodule of an entry, if it has one
abbrev pub submodule_of : ConfigEntry → Option (List ℕ)
submodule_of e = if is_of_section submodule_section e then e.subsection else None

-- the name, unless it is refused
abbrev pub unless_refused : List ℕ → Option (List ℕ)
unless_refused name = if is_refused_name name then None else Some name

-- the name of the submodule of an entry, unless the name is refused: Git ignores such an entry
abbrev pub taken_name : ConfigEntry → Option (List ℕ)
taken_name e = option_and_then unless_refused (submodule_of e)

-- the names without repetitions, in the order of their first occurrences
abbrev pub first_names : List (List ℕ) → List (List ℕ)
first_names [] = []
first_names (name ∷ names) = name ∷ filter (λ other. not (bytes_eq other name)) (first_names names)

-- the names of the submodules, in the order of their first occurrences
abbrev pub names_of : List ConfigEntry → List (List ℕ)
names_of entries = first_names (filter_map taken_name entries)

-- ---- values

-- the value that an entry sets for a submodule and this key, if any
abbrev pub value_by : List ℕ → ConfigEntry → Option (List ℕ)
value_by key e = if is_some (submodule_of e) && has_name key e then e.value else None

-- the value, unless Git ignores it: if `options` is false, it ignores a value that looks like an option
abbrev pub unless_ignored : Bool → List ℕ → Option (List ℕ)
unless_ignored options value = if not options && is_option_like value then None else Some value

-- the submodule for which Git uses the entry by this key, and the value
abbrev pub use_by : List ℕ → Bool → ℕ × ConfigEntry → Option (List ℕ × UsedValue)
use_by key options it = option_and_then (λ name. option_map
    (λ value. (name, record { value = value; index = it.0 }))
    (option_and_then (unless_ignored options) (value_by key it.1))) (taken_name it.1)

-- all of these, in their order
abbrev pub uses_by : List ℕ → Bool → List ConfigEntry → List (List ℕ × UsedValue)
uses_by key options entries = filter_map (use_by key options) (enumerate_from 0 entries)

-- the value that Git uses for the submodule of this name: the last one
abbrev pub used_by : List ℕ → Bool → List ConfigEntry → List ℕ → Option UsedValue
used_by key options entries name = last_or None
    (map (λ given. given.1) (filter (λ given. bytes_eq given.0 name) (uses_by key options entries)))

-- the submodule of this name; Git ignores a path and a URL that look like options
abbrev pub submodule_by : List ConfigEntry → List ℕ → GitSubmodule
submodule_by entries name = record {
  name = name;
  path = used_by (codes "path") false entries name;
  url = used_by (codes "url") false entries name;
  update = used_by (codes "update") true entries name;
  branch = used_by (codes "branch") true entries name;
}

-- the submodules of a file
abbrev pub submodules_of : List ConfigEntry → List GitSubmodule
submodules_of entries = map (submodule_by entries) (names_of entries)

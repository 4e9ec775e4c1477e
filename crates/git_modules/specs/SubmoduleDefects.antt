-- The defects of a submodule as a whole, by the values that Git uses of it and of the other submodules.
use Rattle.std.specs.Prelude.{ℕ, Bool, true, false, nat_lt, bytes_eq, List, [], filter, length, is_none}
use Rattle.std.specs.Option.{option_map_or}
use Rattle.git_modules.specs.Submodules.{GitSubmodule}

-- Git uses no path, or an empty one, which no folder of a repository has
abbrev pub has_no_path : GitSubmodule → Bool
has_no_path s = option_map_or (λ path. bytes_eq path.value []) s.path true

-- Git uses no URL
abbrev pub has_no_url : GitSubmodule → Bool
has_no_url s = is_none s.url

-- the submodule has this path
abbrev pub has_path : List ℕ → GitSubmodule → Bool
has_path p s = option_map_or (λ path. bytes_eq path.value p) s.path false

-- the number of submodules that have this path
abbrev pub path_count : List ℕ → List GitSubmodule → ℕ
path_count p all = length (filter (has_path p) all)

-- more than one of all submodules has the path of this one
abbrev pub has_same_path : List GitSubmodule → GitSubmodule → Bool
has_same_path all s = option_map_or (λ path. nat_lt 1 (path_count path.value all)) s.path false

-- Hosts that other programs read in a text, if they differ from the host of the location that is parsed from it.
use Rattle.std.specs.Prelude.{ℕ, Bool, false, if◌then◌else◌, List, [], ◌∷◌, Option, Some, None}
use Rattle.std.specs.List.{list_any}
use Rattle.std.specs.Option.{is_some}
use Rattle.git_syntax.specs.Location.{Location}
use Rattle.git_readers.specs.Groups.{host_by}
use Rattle.git_readers.specs.declared.groups.Group.{Group}
use Rattle.git_readers.specs.declared.groups.Group.TheVariants as group
use Rattle.git_rules.specs.SameHost.{names_same}

-- the location has a host, and the text names it
abbrev pub names_own_host : Option (List ℕ) → List ℕ → Bool
names_own_host None named = false
names_own_host (Some own) named = names_same own named

-- the host that is found, unless it is the location's
abbrev pub unless_own : Option (List ℕ) → Option (List ℕ) → Option (List ℕ)
unless_own own None = None
unless_own own (Some found) = if names_own_host own found then None else Some found

-- the host that the readers of the group find in the text, unless it is the location's
abbrev pub other_host : Group → List ℕ → Location → Option (List ℕ)
other_host g t v = unless_own v.host (host_by g t)

-- the readers of the group find another host in the text than the location's
abbrev pub has_other_host : List ℕ → Location → Group → Bool
has_other_host t v g = is_some (other_host g t v)

-- every group of readers
abbrev pub every_group : List Group
every_group = group.Urls ∷ group.UrlStandard ∷ group.MadeUrls ∷ group.FirstColon ∷ group.FirstAt
    ∷ group.DigitsArePort ∷ group.FourNumbers ∷ []

-- the readers of some group find another host in the text than the location's
abbrev pub is_misread : List ℕ → Location → Bool
is_misread t v = list_any (has_other_host t v) every_group

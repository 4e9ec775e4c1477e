-- The laws of components, over the definitions alone: one definition for each.
use Rattle.std.specs.Prelude.{◌≡◌, true, ◌↔◌}
use Rattle.git_syntax.specs.Location.{Location}
use Rattle.git_laws.specs.Components.{Components, ComponentsOf}
use Rattle.git_laws.specs.ComponentEquality.{components_eq}

-- every location has exactly one value of components
abbrev pub OneComponents : Type 0
OneComponents = (v : Location)
    → (components : Components) × ComponentsOf v components
    × ((others : Components) → ComponentsOf v others → others ≡ components)

-- components that compare equal are one value, and one value compares equal to itself
abbrev pub EqualComponents : Type 0
EqualComponents = (c d : Components) → components_eq c d ≡ true ↔ (c ≡ d)

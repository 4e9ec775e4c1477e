-- The findings about a submodule as a whole.
use Rattle.std.specs.Prelude.{Bool, List, [], ◌∷◌, ◌++◌, if◌then◌else◌}
use Rattle.git_modules.specs.declared.submodules.defect.Defects.{Defects}
use Rattle.explain_audit.specs.declared.kind.Kind.{Kind}
use Rattle.explain_audit.specs.declared.kind.Kind.TheVariants as kind

-- this finding if it holds, otherwise none
abbrev pub found_where : Bool → Kind → List Kind
found_where holds it = if holds then it ∷ [] else []

-- the findings about a submodule that has these defects
abbrev pub kinds_of : Defects → List Kind
kinds_of d = found_where d.no_path kind.NoPath ++ (found_where d.no_url kind.NoUrl ++ found_where d.same_path kind.SamePath)

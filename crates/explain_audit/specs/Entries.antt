-- The findings about an entry of a file of submodules.
use Rattle.std.specs.Prelude.{List, [], ◌∷◌, ◌++◌, Option, Some, None}
use Rattle.git_modules.specs.declared.submodules.refusal.Refused.{Refused}
use Rattle.git_modules.specs.declared.submodules.risk.Risk.{Risk}
use Rattle.git_modules.specs.declared.submodules.risk.Risk.TheVariants as risk
use Rattle.explain_audit.specs.declared.kind.Kind.{Kind}
use Rattle.explain_audit.specs.declared.kind.Kind.TheVariants as kind

-- all risks, in the order in which they are declared
abbrev pub all_risks : List Risk
all_risks = risk.AbsolutePath ∷ risk.PathUpwards ∷ risk.PathIntoGit ∷ risk.OptionAsBranch ∷ risk.OptionAsUpdate
    ∷ risk.ControlCharacter ∷ risk.NoValue ∷ []

-- the findings so far, and this reason of fsck if there is one
abbrev pub with_reason : List Kind → Option Refused → List Kind
with_reason before None = before
with_reason before (Some reason) = before ++ kind.Fsck reason ∷ []

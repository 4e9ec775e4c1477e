use Rattle.std.proofs.Common.{◌≡◌, map, take}
use Rattle.git_modules.specs.Submodules.{submodule_by}
use Rattle.git_modules.proofs.submodules.submodules.Given as goal

abbrev pub invariant-loop-name : goal.invariant-loop-name
invariant-loop-name l =
    l.found.items ≡ map (submodule_by l.entries) (take l.name-index (map (λ t. t.now) l.name-items))

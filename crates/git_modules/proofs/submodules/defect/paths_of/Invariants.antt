use Rattle.std.proofs.Common.{take}
use Rattle.git_modules.specs.SubmoduleInternal.{HasPaths}
use Rattle.git_modules.proofs.submodules.defect.paths_of.Given as goal

abbrev pub invariant-loop-submodule : goal.invariant-loop-submodule
invariant-loop-submodule l = HasPaths (take l.submodule-index l.submodules) l.paths

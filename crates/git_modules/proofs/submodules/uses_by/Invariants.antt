use Rattle.std.proofs.Common.{take}
use Rattle.git_modules.specs.SubmoduleInternal.{HasUses}
use Rattle.git_modules.proofs.submodules.uses_by.Given as goal

abbrev pub invariant-loop-index : goal.invariant-loop-index
invariant-loop-index l = HasUses l.key l.options (take l.index l.entries) l.uses

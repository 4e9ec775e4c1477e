-- The names so far were appended.
use Rattle.std.proofs.Common.{◌≡◌, take}
use Rattle.c_values.specs.SubmoduleNumbers.{submodule_names}
use Rattle.c_values.proofs.rules.submodules.names_of.Given as goal

abbrev pub invariant-loop-submodule : goal.invariant-loop-submodule
invariant-loop-submodule l = l.bytes.items ≡ submodule_names (take l.submodule-index l.found)

-- The numbers of the submodules so far were appended.
use Rattle.std.proofs.Common.{◌≡◌, take}
use Rattle.std.specs.List.{flat_map}
use Rattle.c_values.specs.SubmoduleNumbers.{submodule_numbers}
use Rattle.c_values.proofs.rules.submodules.numbers_of.Given as goal

abbrev pub invariant-loop-submodule : goal.invariant-loop-submodule
invariant-loop-submodule l = l.numbers.items ≡ flat_map submodule_numbers (take l.submodule-index l.found)

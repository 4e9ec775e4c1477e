-- The numbers of the dangers so far were appended.
use Rattle.std.proofs.Common.{◌≡◌, map, take}
use Rattle.c_values.specs.DangerNumbers.{danger_number}
use Rattle.c_values.proofs.rules.dangers.numbers_of.Given as goal

abbrev pub invariant-loop-danger : goal.invariant-loop-danger
invariant-loop-danger l = l.numbers.items ≡ map danger_number (take l.danger-index l.found)

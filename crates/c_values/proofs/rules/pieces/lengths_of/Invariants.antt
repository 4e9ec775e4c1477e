-- The lengths of the texts so far were appended.
use Rattle.std.proofs.Common.{◌≡◌, length, map, take}
use Rattle.c_values.proofs.rules.pieces.lengths_of.Given as goal

abbrev pub invariant-loop-text : goal.invariant-loop-text
invariant-loop-text l = l.lengths.items ≡ map (λ t. length t.now) (take l.text-index l.texts)

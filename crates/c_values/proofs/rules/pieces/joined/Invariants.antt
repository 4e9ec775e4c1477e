-- The texts so far were appended.
use Rattle.std.proofs.Common.{◌≡◌, map, take}
use Rattle.std.specs.List.{concat}
use Rattle.c_values.proofs.rules.pieces.joined.Given as goal

abbrev pub invariant-loop-text : goal.invariant-loop-text
invariant-loop-text l = l.bytes.items ≡ concat (map (λ t. t.now) (take l.text-index l.texts))

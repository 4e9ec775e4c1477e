use Rattle.std.proofs.Common.{◌≡◌, ◌-◌, ◌≤◌, length, take, true}
use Rattle.std.specs.List.{list_all}
use Rattle.git_syntax.specs.Escapes.{is_plain_byte}
use Rattle.git_syntax.proofs.blocks.are_plain.Given as goal

-- each byte before the block passes
abbrev pub invariant-loop-done : goal.invariant-loop-done
invariant-loop-done l = (l.done ≤ length l.text) × (list_all is_plain_byte (take l.done l.text) ≡ true)

abbrev pub decreases-loop-done : goal.decreases-loop-done
decreases-loop-done l = length l.text - l.done

abbrev pub invariant-loop-done-2 : goal.invariant-loop-done-2
invariant-loop-done-2 l = (l.done ≤ length l.text) × (list_all is_plain_byte (take l.done l.text) ≡ true)

abbrev pub decreases-loop-done-2 : goal.decreases-loop-done-2
decreases-loop-done-2 l = length l.text - l.done

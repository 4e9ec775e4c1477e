use Rattle.std.proofs.Common.{◌≡◌, ◌-◌, ◌≤◌, length, take, true}
use Rattle.std.specs.List.{list_all}
use Rattle.git_syntax.specs.Escapes.{is_printable_byte}
use Rattle.git_syntax.proofs.blocks.are_printable.Given as goal

-- each byte before the block passes
abbrev pub invariant-loop-done : goal.invariant-loop-done
invariant-loop-done l = (l.done ≤ length l.text) × (list_all is_printable_byte (take l.done l.text) ≡ true)

abbrev pub decreases-loop-done : goal.decreases-loop-done
decreases-loop-done l = length l.text - l.done

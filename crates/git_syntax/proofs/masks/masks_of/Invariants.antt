use Rattle.std.proofs.Common.{◌≡◌, ◌-◌, ◌≤◌, length, take, true}
use Rattle.git_syntax.specs.Internal.Masks.{AreMasksOf, is_common}
use Rattle.git_syntax.proofs.masks.masks_of.Given as goal

abbrev pub invariant-loop-done : goal.invariant-loop-done
invariant-loop-done l = (16 ≤ l.done) × (l.done ≤ length l.text) × AreMasksOf (take l.done l.text) l.masks × (is_common (take l.done l.text) ≡ true)

abbrev pub decreases-loop-done : goal.decreases-loop-done
decreases-loop-done l = l.last - l.done

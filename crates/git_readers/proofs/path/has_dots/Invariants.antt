-- The rest has a segment of dots if the path does.
use Rattle.std.proofs.Common.{◌↔◌, length}
use Rattle.git_readers.specs.Unambiguous.{HasDots}
use Rattle.git_readers.proofs.path.has_dots.Given as goal

abbrev pub invariant-loop-segment : goal.invariant-loop-segment
invariant-loop-segment l = HasDots l.rest ↔ HasDots l.path

abbrev pub decreases-loop-segment : goal.decreases-loop-segment
decreases-loop-segment l = length l.rest

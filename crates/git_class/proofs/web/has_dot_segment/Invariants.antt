-- The rest has a dot segment if the text does.
use Rattle.std.proofs.Common.{◌↔◌, length}
use Rattle.git_class.specs.WebClass.{HasDotSegment}
use Rattle.git_class.proofs.web.has_dot_segment.Given as goal

abbrev pub invariant-loop-front : goal.invariant-loop-front
invariant-loop-front l = HasDotSegment l.rest ↔ HasDotSegment l.path

abbrev pub decreases-loop-front : goal.decreases-loop-front
decreases-loop-front l = length l.rest

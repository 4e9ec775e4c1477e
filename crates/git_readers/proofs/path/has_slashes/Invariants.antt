-- The rest holds `//` if the path does.
use Rattle.std.proofs.Common.{◌↔◌, length}
use Rattle.git_syntax.specs.Bytes.{Holds}
use Rattle.git_readers.specs.Unambiguous.{slashes}
use Rattle.git_readers.proofs.path.has_slashes.Given as goal

abbrev pub invariant-loop-suffix : goal.invariant-loop-suffix
invariant-loop-suffix l = Holds slashes l.rest ↔ Holds slashes l.path

abbrev pub decreases-loop-suffix : goal.decreases-loop-suffix
decreases-loop-suffix l = length l.rest

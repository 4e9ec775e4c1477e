-- The labels so far are plain, so the host is one of labels if the rest is.
use Rattle.std.proofs.Common.{◌↔◌, length}
use Rattle.git_readers.specs.Unambiguous.{AreLabels}
use Rattle.git_readers.proofs.host.are_labels.Given as goal

abbrev pub invariant-loop-label : goal.invariant-loop-label
invariant-loop-label l = AreLabels l.rest ↔ AreLabels l.host

abbrev pub decreases-loop-label : goal.decreases-loop-label
decreases-loop-label l = length l.rest

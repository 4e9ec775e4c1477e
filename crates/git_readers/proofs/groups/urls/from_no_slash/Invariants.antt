-- The slashes at the front don't count.
use Rattle.std.proofs.Common.{◌≡◌, length}
use Rattle.git_readers.specs.Groups.{is_no_slash}
use Rattle.git_readers.specs.Readers.{from}
use Rattle.git_readers.proofs.groups.urls.from_no_slash.Given as goal

abbrev pub invariant-loop-rest : goal.invariant-loop-rest
invariant-loop-rest l = from is_no_slash l.rest ≡ from is_no_slash l.text

abbrev pub decreases-loop-rest : goal.decreases-loop-rest
decreases-loop-rest l = length l.rest

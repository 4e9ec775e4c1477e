-- The digits at the front don't count.
use Rattle.std.proofs.Common.{◌≡◌, length}
use Rattle.git_readers.specs.Readers.{from, is_no_digit}
use Rattle.git_readers.proofs.groups.scp.from_no_digit.Given as goal

abbrev pub invariant-loop-rest : goal.invariant-loop-rest
invariant-loop-rest l = from is_no_digit l.rest ≡ from is_no_digit l.text

abbrev pub decreases-loop-rest : goal.decreases-loop-rest
decreases-loop-rest l = length l.rest

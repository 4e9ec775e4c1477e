-- The name is in the rest exactly if it is in the list.
use Rattle.std.proofs.Common.{◌≡◌, length}
use Rattle.git_rules.specs.Protocols.{is_listed}
use Rattle.git_rules.proofs.protocols.is_listed.Given as goal

-- none of the names before those that are left is the one asked for
abbrev pub invariant-loop-piece : goal.invariant-loop-piece
invariant-loop-piece l = is_listed l.list l.name ≡ is_listed l.rest l.name

abbrev pub decreases-loop-piece : goal.decreases-loop-piece
decreases-loop-piece l = length l.rest

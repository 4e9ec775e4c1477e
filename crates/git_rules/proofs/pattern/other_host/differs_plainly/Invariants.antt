-- What is left of both follows a common front.
use Rattle.std.proofs.Common.{◌≡◌, ◌++◌, ℕ, List, true, length}
use Rattle.std.specs.List.{list_all}
use Rattle.git_class.specs.WebClass.{is_plain_host_byte}
use Rattle.git_rules.proofs.pattern.other_host.differs_plainly.Given as goal

abbrev pub invariant-loop-byte : goal.invariant-loop-byte
invariant-loop-byte l = (front : List ℕ) × (l.text ≡ front ++ l.rest) × (l.host ≡ front ++ l.own)
    × (list_all is_plain_host_byte front ≡ true)

abbrev pub decreases-loop-byte : goal.decreases-loop-byte
decreases-loop-byte l = length l.rest

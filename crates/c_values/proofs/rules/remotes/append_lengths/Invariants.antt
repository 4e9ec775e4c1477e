-- The lengths of the texts so far were appended.
use Rattle.std.proofs.Common.{◌≡◌, ◌++◌, length, map, take}
use Rattle.git_rules.specs.Rewrites.{outcome_text}
use Rattle.c_values.proofs.rules.remotes.append_lengths.Given as goal

abbrev pub invariant-loop-outcome : goal.invariant-loop-outcome
invariant-loop-outcome l = l.lengths.items ≡ l.fn.lengths.items ++ map length (map outcome_text (take l.outcome-index l.outcomes))

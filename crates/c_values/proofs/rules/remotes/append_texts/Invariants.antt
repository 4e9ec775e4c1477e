-- The texts so far were appended.
use Rattle.std.proofs.Common.{◌≡◌, ◌++◌, map, take}
use Rattle.std.specs.List.{concat}
use Rattle.git_rules.specs.Rewrites.{outcome_text}
use Rattle.c_values.proofs.rules.remotes.append_texts.Given as goal

abbrev pub invariant-loop-outcome : goal.invariant-loop-outcome
invariant-loop-outcome l = l.bytes.items ≡ l.fn.bytes.items ++ concat (map outcome_text (take l.outcome-index l.outcomes))

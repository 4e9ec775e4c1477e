use Rattle.std.proofs.Common.{◌≡◌, option_map, take}
use Rattle.git_rules.specs.Remotes.{last_of, values_of}
use Rattle.git_rules.proofs.remote.last_value.Given as goal

abbrev pub invariant-loop-entry : goal.invariant-loop-entry
invariant-loop-entry l =
    option_map (λ t. t.now) l.last ≡ last_of (values_of l.name l.key (take l.entry-index l.entries))

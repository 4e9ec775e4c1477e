use Rattle.std.proofs.Common.{◌≡◌, option_map, take}
use Rattle.explain.specs.Versions.{last_version}
use Rattle.explain.proofs.client.last_version.Given as goal

-- the last entry of the key so far
abbrev pub invariant-loop-entry : goal.invariant-loop-entry
invariant-loop-entry l = option_map (λ e. e.now) l.found ≡ last_version (take l.entry-index l.entries)

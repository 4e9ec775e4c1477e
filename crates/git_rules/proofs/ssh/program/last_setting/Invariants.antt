use Rattle.std.proofs.Common.{◌≡◌, option_map, take}
use Rattle.git_rules.specs.SshPrograms.{last_setting}
use Rattle.git_rules.proofs.ssh.program.last_setting.Given as goal

abbrev pub invariant-loop-entry : goal.invariant-loop-entry
invariant-loop-entry l =
    option_map (λ e. e.now) l.found ≡ last_setting l.section l.name (take l.entry-index l.entries)

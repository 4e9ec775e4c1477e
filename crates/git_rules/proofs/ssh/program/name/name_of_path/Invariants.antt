use Rattle.std.proofs.Common.{take}
use Rattle.git_rules.specs.BaseNames.{IsNameOf}
use Rattle.git_rules.proofs.ssh.program.name.name_of_path.Given as goal

abbrev pub invariant-loop-byte : goal.invariant-loop-byte
invariant-loop-byte l = IsNameOf l.name (take l.byte-index l.path)

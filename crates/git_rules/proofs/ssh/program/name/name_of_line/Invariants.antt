use Rattle.std.proofs.Common.{drop}
use Rattle.git_rules.specs.CommandLines.{first_word}
use Rattle.git_rules.specs.BaseNames.{IsReadTo}
use Rattle.git_rules.proofs.ssh.program.name.name_of_line.Given as goal

abbrev pub invariant-loop-byte : goal.invariant-loop-byte
invariant-loop-byte l = IsReadTo l.word (drop l.byte-index l.line) (first_word l.line)

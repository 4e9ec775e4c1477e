-- The rest of the text writes the same port.
use Rattle.std.proofs.Common.{◌≡◌, length}
use Rattle.git_reads.specs.Git.{git_port}
use Rattle.git_reads.proofs.port.port_of.Given as goal

abbrev pub invariant-loop-first : goal.invariant-loop-first
invariant-loop-first l = git_port l.rest ≡ git_port l.text

abbrev pub decreases-loop-first : goal.decreases-loop-first
decreases-loop-first l = length l.rest

-- No bracket closes those that are opened.
use Rattle.git_reads.specs.Git.LacksHostBrackets.{unclosed}
use Rattle.git_reads.proofs.place.in_brackets.Goals as goal

pub returns-in_err-inside : goal.returns-in_err-inside
returns-in_err-inside c =
    rw c.from_residual-in_err-inside.ensures (unclosed c.in_ok-front.front.now c.in_ok-front.rest.now c.in_ok-front.ensures c.in_err-inside.ensures)

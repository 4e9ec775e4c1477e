-- The text before the rest spells UTF-8.
use Rattle.std.proofs.Common.{length}
use Rattle.git_refusals.proofs.Refusing.EscapeLemmas.{IsLeft}
use Rattle.git_refusals.proofs.escapes.undecodable_end.Given as goal

abbrev pub invariant-loop-first : goal.invariant-loop-first
invariant-loop-first l = IsLeft l.piece l.rest

abbrev pub decreases-loop-first : goal.decreases-loop-first
decreases-loop-first l = length l.rest

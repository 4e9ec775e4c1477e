-- As many bytes of the decoding are left out as turns are done.
use Rattle.std.proofs.Common.{◌≡◌, drop}
use Rattle.git_refusals.specs.Characters.{spelled_len}
use Rattle.git_refusals.proofs.escapes.suffix.Given as goal

abbrev pub invariant-loop-turn : goal.invariant-loop-turn
invariant-loop-turn l = l.rest ≡ drop (spelled_len l._turn l.text) l.text

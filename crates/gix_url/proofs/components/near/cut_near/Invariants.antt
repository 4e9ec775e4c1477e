-- None of the bytes so far is one that is searched for.
use Rattle.std.proofs.Common.{take}
use Rattle.git_syntax.specs.Bytes.{FreeOf}
use Rattle.gix_url.proofs.components.near.cut_near.Given as goal

abbrev pub invariant-loop-at : goal.invariant-loop-at
invariant-loop-at l = FreeOf l.c (take l.at l.bytes)

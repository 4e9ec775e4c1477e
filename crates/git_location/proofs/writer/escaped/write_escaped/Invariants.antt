-- The text read so far was put.
use Rattle.std.proofs.Common.{◌≡◌, List, ℕ, ◌++◌, length}
use Rattle.percent_encoding.specs.Percent.{percent_encode}
use Rattle.git_location.proofs.writer.escaped.write_escaped.Given as goal

abbrev pub invariant-loop-rest : goal.invariant-loop-rest
invariant-loop-rest g l =
    (done : List ℕ) × (percent_encode l.set l.text ≡ done ++ percent_encode l.set l.rest) × g.S.Sink.takes l.fn.place done l.place

abbrev pub decreases-loop-rest : goal.decreases-loop-rest
decreases-loop-rest g l = length l.rest

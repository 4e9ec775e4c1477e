-- A host is the whole piece, or the text before the colon of a port.
use Rattle.std.proofs.Common.{arith}
use Rattle.git_parts.proofs.Cutting.PartLemmas.{port_within, port_spans}
use Rattle.git_parts.proofs.parts.authority.host_parts.Goals as goal

pub returns-in-None : goal.returns-in-None
returns-in-None c = rw c.unless_empty.ensures (c.in-None.ensures c.args.start)

pub returns-in-Some : goal.returns-in-Some
returns-in-Some c =
    let within = port_within c.args.piece.now c.in-Some.digits.now c.in-Some.ensures in
    port_spans c.args.start _ _ c.args.piece.now c.in-Some.digits.now c.in-Some.ensures (omega (arith, within)) (omega (arith, within))

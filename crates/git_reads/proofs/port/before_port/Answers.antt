-- The text after the first colon decides.
use Rattle.std.proofs.Common.{arith, refl, sym}
use Rattle.git_reads.specs.Git.BeforePort.{marked, unmarked}
use Rattle.git_reads.proofs.port.before_port.Goals as goal

pub returns-in-Some-port_of : goal.returns-in-Some-port_of
returns-in-Some-port_of c =
    marked c.in-Some.digits.now c.in-Some-port_of.port c.in-Some.ensures.0 c.in-Some.ensures.1 (sym c.in-Some-port_of.ensures) refl

pub returns-in-None-port_of : goal.returns-in-None-port_of
returns-in-None-port_of c =
    unmarked c.in-Some.front.now c.in-Some.digits.now c.in-Some.ensures.0 c.in-Some.ensures.1 (omega (arith, c.in-Some.len_at_least)) (sym c.in-None-port_of.ensures) refl refl

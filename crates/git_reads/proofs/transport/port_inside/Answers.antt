-- The first colon in the brackets marks a port, or marks none.
use Rattle.std.proofs.Common.{◌∙◌, refl, sym}
use Rattle.git_reads.specs.Git.{SecurePort}
use Rattle.git_reads.proofs.transport.port_inside.Goals as goal

pub returns-in-Some-port_of : goal.returns-in-Some-port_of
returns-in-Some-port_of c = SecurePort.inside c.in-Some.digits.now c.in-Some-port_of.port refl c.in-Some.ensures.0 c.in-Some.ensures.1 (sym c.port_of.ensures ∙ c.in-Some-port_of.is) refl

pub returns-in-None-port_of : goal.returns-in-None-port_of
returns-in-None-port_of c = SecurePort.unmarked c.in-Some.word.now c.in-Some.digits.now refl c.in-Some.ensures.0 c.in-Some.ensures.1 (sym c.port_of.ensures ∙ c.in-None-port_of.is) refl refl

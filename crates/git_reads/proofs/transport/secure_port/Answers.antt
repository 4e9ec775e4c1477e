-- A port after the host stays.
use Rattle.std.proofs.Common.{refl, subst, sym}
use Rattle.git_reads.specs.Git.{SecurePort}
use Rattle.git_reads.proofs.transport.secure_port.Goals as goal

pub returns-in-Some : goal.returns-in-Some
returns-in-Some c = SecurePort.outside c.in-Some.port c.in-Some.is refl (sym c.in-Some.is)

pub returns-in-None : goal.returns-in-None
returns-in-None c = subst (λ f. SecurePort c.args.named.now f c.port_inside.result.0.now c.port_inside.result.1) (sym c.in-None.is) c.port_inside.ensures

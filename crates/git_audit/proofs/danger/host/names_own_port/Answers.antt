-- The last colon parts a host from a port.
use Rattle.git_audit.proofs.Dangers.HostLemmas.{no_port, port_after}
use Rattle.git_audit.proofs.danger.host.names_own_port.Goals as goal

pub returns-in-Some : goal.returns-in-Some
returns-in-Some c =
    let cut = c.in-Some.ensures in
    port_after c.args.url.now c.args.named.now c.in-Some.host.now c.in-Some.digits.now c.is_own_before.result cut.0 cut.1 c.is_own_before.ensures

pub returns-in-None : goal.returns-in-None
returns-in-None c = no_port c.args.url.now c.args.named.now c.in-None.ensures

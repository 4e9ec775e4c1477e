-- A simple host is a settled name in the scp form.
use Rattle.std.proofs.Common.{subst}
use Rattle.git_syntax.specs.Internal.HostPieces.{IsSimpleHost}
use Rattle.git_location.proofs.SettledClass.SettledLemmas.{simple_scp_name}
use Rattle.git_location.proofs.settled.scp.is_scp_name.Goals as goal

pub returns-then-is_simple_host : goal.returns-then-is_simple_host
returns-then-is_simple_host c = (λ yes. simple_scp_name c.args.host.now (subst IsSimpleHost c.as_bytes.ensures.value (c.is_simple_host.ensures c.if-is_simple_host.true)), λ settled. c.if-is_simple_host.true)

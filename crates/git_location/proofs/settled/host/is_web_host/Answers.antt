-- A simple host is settled, beside each port.
use Rattle.git_location.proofs.SettledClass.SettledLemmas.{simple_web_host}
use Rattle.git_location.proofs.settled.host.is_web_host.Goals as goal

pub returns-then-is_simple_host : goal.returns-then-is_simple_host
returns-then-is_simple_host c = (λ yes. simple_web_host c.args.port c.args.host.now (c.is_simple_host.ensures c.if-is_simple_host.true), λ settled. c.if-is_simple_host.true)

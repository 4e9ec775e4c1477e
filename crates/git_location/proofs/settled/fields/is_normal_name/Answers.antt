-- A simple host is a settled name.
use Rattle.git_location.proofs.SettledClass.SettledLemmas.{simple_normal_name}
use Rattle.git_location.proofs.settled.fields.is_normal_name.Goals as goal

pub returns-then-is_simple_host : goal.returns-then-is_simple_host
returns-then-is_simple_host c = (λ yes. simple_normal_name c.args.host.now (c.is_simple_host.ensures c.if-is_simple_host.true), λ settled. c.if-is_simple_host.true)

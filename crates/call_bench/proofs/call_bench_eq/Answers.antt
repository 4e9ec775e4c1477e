-- Both readings are compared.
use Rattle.std.proofs.Common.{rules}
use Rattle.call_bench.proofs.call_bench_eq.Goals as goal

pub returns-in-Ok-from_bytes : goal.returns-in-Ok-from_bytes
returns-in-Ok-from_bytes c = λ same. (c.in-Ok.url, c.in-Ok-from_bytes.again, search rules, search rules, search rules)

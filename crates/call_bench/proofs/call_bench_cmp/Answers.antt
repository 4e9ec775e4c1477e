-- Both readings are compared.
use Rattle.std.proofs.Common.{rules}
use Rattle.call_bench.proofs.call_bench_cmp.Goals as goal

pub returns-in-Equal : goal.returns-in-Equal
returns-in-Equal c = λ same. (c.in-Ok.url, c.in-Ok-from_bytes.again, search rules, search rules, search rules)

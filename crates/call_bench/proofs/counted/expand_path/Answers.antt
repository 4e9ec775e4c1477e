-- The text is the expanded path.
use Rattle.std.proofs.Common.{string_bytes, arith}
use Rattle.call_bench.proofs.counted.expand_path.Goals as goal

pub returns-in-Ok : goal.returns-in-Ok
returns-in-Ok c = λ more utf8. (string_bytes c.in-Ok.text, c.in-Ok.ensures.expanded utf8, grind arith)

-- A bracket that nothing closes.
use Rattle.std.proofs.Common.{refl, arith}
use Rattle.git_refusals.specs.Reasons.{BadHost}
use Rattle.git_refusals.proofs.host.bad_bracketed.Goals as goal

pub returns-in-None : goal.returns-in-None
returns-in-None c = record {
  found = BadHost.unclosed c.args.suffix.now c.in-None.ensures refl (record { named = refl; start = refl; size = refl });
  within = omega arith;
}

-- The location is read from the text, and the length is that of its path.
use Rattle.std.proofs.Common.{◌∙◌, ap, length, sym}
use Rattle.call_bench.proofs.counted.reread.Goals as goal

pub returns-in-Ok : goal.returns-in-Ok
returns-in-Ok c = λ more. (
  c.in-Ok.again,
  λ t written. (c.in-Ok.ensures.read t written).found,
  ap (λ v. length v.path) (sym c.again.view_is) ∙ ap length (sym c.as_bytes.ensures),
)

-- The restored location is the one that the record that was read represents.
use Rattle.std.proofs.Common.{◌∙◌, ap, length, sym}
use Rattle.call_bench.proofs.counted.from_json.Goals as goal

pub returns-in-Ok-from_stored : goal.returns-in-Ok-from_stored
returns-in-Ok-from_stored c = λ more. (
  c.in-Ok.stored,
  ap (λ v. length v.path) (sym c.in-Ok-from_stored.ensures.restored ∙ sym c.url.view_is)
      ∙ ap length (sym c.as_bytes.ensures),
)

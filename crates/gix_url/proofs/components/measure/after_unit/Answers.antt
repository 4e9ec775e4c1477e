-- A byte is decoded alone, or with two digits after a `%`.
use Rattle.std.proofs.Common.{◌∙◌, ◌+◌, ap, sym, length}
use Rattle.percent_encoding.specs.Percent.{percent_decode}
use Rattle.gix_url.proofs.ComponentCuts.MeaningLemmas.{decoded_broken, decoded_escape, decoded_other}
use Rattle.gix_url.proofs.components.measure.after_unit.Goals as goal

pub returns-then-first-ne37-clause-decoded : goal.returns-then-first-ne37-clause-decoded
returns-then-first-ne37-clause-decoded c = decoded_other c.args.first c.args.suffix.now c.if-first-ne37.true

pub returns-then-not-begins_with_digits-clause-decoded : goal.returns-then-not-begins_with_digits-clause-decoded
returns-then-not-begins_with_digits-clause-decoded c = decoded_broken c.args.first c.args.suffix.now (sym c.if-not-begins_with_digits.ensures)

pub returns-clause-decoded : goal.returns-clause-decoded
returns-clause-decoded c =
    decoded_escape c.args.first c.args.suffix.now c.if-first-ne37.false (sym c.if-not-begins_with_digits.ensures)
    ∙ ap (λ t. length (percent_decode t) + 1) (sym c.split_at.ensures.back)

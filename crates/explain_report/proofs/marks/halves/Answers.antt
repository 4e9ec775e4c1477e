-- The place is that of the first match.
use Rattle.std.proofs.Common.{◌≡◌, Some, take, option_map, sym, ap, subst, ◌∙◌}
use Rattle.memchr.proofs.lemmas.ValueLemmas.{FindsNeedle-value}
use Rattle.explain_report.specs.Marks as spec
use Rattle.explain_report.proofs.marks.halves.Goals as goal

pub returns-in_err-at : goal.returns-in_err-at
returns-in_err-at c =
    let text = c.args.text.now in
    let mark = c.args.mark.now in
    let value = FindsNeedle-value text mark c.place_of.result c.place_of.ensures in
    subst (λ r. option_map (λ p. (p.0.now, p.1.now)) r ≡ spec.halves mark text) (sym c.from_residual.ensures)
    (ap (spec.around mark text) (sym c.in_err-at.was ∙ value))

pub returns : goal.returns
returns c =
    let text = c.args.text.now in
    let mark = c.args.mark.now in
    let value = FindsNeedle-value text mark c.place_of.result c.place_of.ensures in
    ap (λ front. Some (front, c.split_at-2.result.1.now)) c.split_at.ensures.front
    ∙ ap (λ rest. Some (take c.in_ok-at.at text, rest)) c.split_at-2.ensures.back
    ∙ ap (spec.around mark text) (sym c.in_ok-at.was ∙ value)

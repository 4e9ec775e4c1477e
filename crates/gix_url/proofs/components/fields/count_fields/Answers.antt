-- At the start the whole is left, as after an `&`; the fields of
-- the rest begin in its first piece or after that.
use Rattle.std.proofs.Common.{◌≡◌, ◌∙◌, ◌+◌, ◌++◌, ◌==◌, ap, sym, arith, length}
use Rattle.std.proofs.lemmas.List.{length-append, take-append-drop}
use Rattle.git_syntax.specs.Bytes.{ampersand}
use Rattle.gix_url.specs.Internal.ComponentPieces.{begun_in}
use Rattle.gix_url.proofs.ComponentCuts.FieldLemmas.{begun_joined, field_count_begun}
use Rattle.gix_url.proofs.components.fields.count_fields.Goals as goal

pub loop-rest-init : goal.loop-rest-init
loop-rest-init c = record { counted = omega (arith, field_count_begun c.args.query.now); small = omega arith }

pub loop-rest-preserved : goal.loop-rest-preserved
loop-rest-preserved c =
    let front = c.split_at.result.0.now in
    let suffix = c.split_at.result.1.now in
    let before = c.loop-rest.before == ampersand in
    let cut : front ++ suffix ≡ c.loop-rest.rest.now = (λ i. c.split_at.ensures.front i ++ c.split_at.ensures.back i) ∙ take-append-drop 255 c.loop-rest.rest.now in
    let begun : begun_in before c.loop-rest.rest.now ≡ begun_in before front + begun_in (c.count_begun-begun.result.1 == ampersand) suffix = ap (begun_in before) (sym cut) ∙ begun_joined before front suffix ∙ ap (λ last. begun_in before front + begun_in last suffix) (sym c.count_begun-begun.ensures.last) in record {
      counted = omega (arith, begun, c.loop-rest.invariant.counted, c.count_begun-begun.ensures.count, c.from-count.ensures);
      small = omega (arith, c.loop-rest.invariant.small, c.count_begun-begun.ensures.small, c.from-count.ensures, ap length cut, length-append front suffix);
    }

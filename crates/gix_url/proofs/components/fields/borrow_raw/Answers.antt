-- The names and values of the next field come before those of the rest.
use Rattle.std.proofs.Common.{ap, arith, false, subst, sym}
use Rattle.gix_url.specs.Internal.ComponentPieces.{BorrowsFields, one_field}
use Rattle.gix_url.proofs.ComponentCuts.FieldLemmas.{adds_field, adds_last, adds_raw, after_free, field_count_cut}
use Rattle.gix_url.proofs.components.fields.borrow_raw.Goals as goal

pub loop-field-preserved : goal.loop-field-preserved
loop-field-preserved c =
    let rest = c.loop-field.rest.now in
    let field = c.in-Some.field.now in
    let suffix = c.in-Some.suffix.now in
    let (free, joined) = c.in-Some.ensures in
    let adds = adds_raw c.raw.result field c.loop-field.pairs.items c.push_field.new.pairs.items c.raw.ensures.text c.raw.ensures.escaped c.in_ok-push_field.ensures.pairs in
    let count = field_count_cut rest field suffix free joined in record {
      borrowed = λ more borrows.
          let all = adds_field false rest field suffix c.loop-field.pairs.items c.push_field.new.pairs.items more free joined adds borrows in
          subst (BorrowsFields false c.args.query.now) (sym all.suffix) (c.loop-field.invariant.borrowed all.whole all.borrowed);
      reserved = omega (arith, count, c.in_ok-push_field.ensures.len, ap one_field c.raw.ensures.text, c.loop-field.invariant.reserved, c.in_ok-push_field.ensures.capacity);
      plain = λ known. after_free rest field suffix joined (c.loop-field.invariant.plain known);
    }

pub returns : goal.returns
returns c =
    let rest = c.loop-field.rest.now in
    let adds = adds_raw c.raw-2.result rest c.loop-field.pairs.items c.push_field-2.new.pairs.items c.raw-2.ensures.text c.raw-2.ensures.escaped c.in_ok-push_field-2.ensures.pairs in
    let all = adds_last false rest c.loop-field.pairs.items c.push_field-2.new.pairs.items c.in_default.ensures adds in
    subst (BorrowsFields false c.args.query.now) (sym all.suffix) (c.loop-field.invariant.borrowed all.whole all.borrowed)

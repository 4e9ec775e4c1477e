-- The names and values of the next field come before those of the rest.
use Rattle.std.proofs.Common.{◌∙◌, arith, subst, sym}
use Rattle.gix_url.specs.Internal.ComponentPieces.{BorrowsFields, AddsPair}
use Rattle.gix_url.proofs.ComponentCuts.FieldLemmas.{adds_field, adds_last, after_free, field_count_cut}
use Rattle.gix_url.proofs.components.fields.borrow_spelled.Goals as goal

pub loop-field-preserved : goal.loop-field-preserved
loop-field-preserved c =
    let around = c.in-Some.ensures in
    let rest = c.loop-field.rest in
    let escaped = around.front_escaped ∙ c.loop-field.invariant.escaped in
    let adds = subst (λ b. AddsPair b c.in-Some.field.text.now c.loop-field.pairs.items c.push_field.new.pairs.items) escaped c.in_ok-push_field.ensures.pairs in
    let count = field_count_cut rest.text.now c.in-Some.field.text.now c.in-Some.suffix.text.now around.free around.joined in record {
      escaped = around.after_escaped ∙ c.loop-field.invariant.escaped;
      borrowed = λ more borrows.
          let all = adds_field c.args.query.escaped rest.text.now c.in-Some.field.text.now c.in-Some.suffix.text.now c.loop-field.pairs.items c.push_field.new.pairs.items more around.free around.joined adds borrows in
          subst (BorrowsFields c.args.query.escaped c.args.query.text.now) (sym all.suffix) (c.loop-field.invariant.borrowed all.whole all.borrowed);
      reserved = omega (arith, count, c.in_ok-push_field.ensures.len);
      plain = λ known. after_free rest.text.now c.in-Some.field.text.now c.in-Some.suffix.text.now around.joined (c.loop-field.invariant.plain known);
    }

pub returns : goal.returns
returns c =
    let rest = c.loop-field.rest in
    let adds = subst (λ b. AddsPair b rest.text.now c.loop-field.pairs.items c.push_field-2.new.pairs.items) c.loop-field.invariant.escaped c.in_ok-push_field-2.ensures.pairs in
    let all = adds_last c.args.query.escaped rest.text.now c.loop-field.pairs.items c.push_field-2.new.pairs.items c.in_default.ensures adds in
    subst (BorrowsFields c.args.query.escaped c.args.query.text.now) (sym all.suffix) (c.loop-field.invariant.borrowed all.whole all.borrowed)

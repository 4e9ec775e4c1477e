use Rattle.std.proofs.Common.{◌∙◌, ◌++◌, ◌∷◌, [], ap, refl}
use Rattle.git_rules.specs.RuleTable.{noted}
use Rattle.git_rules.specs.declared.rewrite.table.Kept.{Kept}
use Rattle.git_rules.proofs.Rules.TableLemmas.{next_at, notes_more, notes_refused, notes_same, notes_without}
use Rattle.git_rules.proofs.rewrite.table.Table.add.Goals as goal

pub invariant_of-self : goal.invariant_of-self
invariant_of-self c =
    let t = c.self.inside in
    notes_same t.rules.items c.reserve.new.self.items t.ranks t.fronts t.lengths t.lengths c.in_err-reserve.ensures.items refl c.self.invariant

pub invariant_of-self-in_err-insert : goal.invariant_of-self-in_err-insert
invariant_of-self-in_err-insert c =
    let t = c.self.inside in
    notes_same t.rules.items c.reserve.new.self.items t.ranks t.fronts t.lengths c.insert.new.self c.in_ok-reserve.ensures.items c.in_err-insert.ensures.err c.self.invariant

pub invariant_of-self-in_err-rank : goal.invariant_of-self-in_err-rank
invariant_of-self-in_err-rank c =
    let t = c.self.inside in
    notes_without t.rules.items c.reserve.new.self.items _ t.ranks c.rank_of.new.ranks t.fronts t.lengths c.insert.new.self c.in_ok-reserve.ensures.items c.self.invariant c.in_err-rank.ensures.refused c.in_ok-insert.ensures.updates

pub invariant_of-self-in_err-note_front : goal.invariant_of-self-in_err-note_front
invariant_of-self-in_err-note_front c =
    let t = c.self.inside in
    let items = c.in_ok-reserve.ensures.items in
    let next = next_at t.rules.items c.as_slice.result.now c.args.base.now c.in_ok-rank.rank (noted t.ranks c.args.base.now) (c.as_slice.ensures.value ∙ items) (c.self.invariant.0 c.args.base.now) c.in_ok-rank.ensures.rank in
    notes_refused t.rules.items c.reserve.new.self.items c.args.base.now c.in_ok-rank.rank _ t.ranks c.rank_of.new.ranks t.fronts c.note_front.new.fronts t.lengths c.insert.new.self items c.self.invariant next c.in_ok-rank.ensures.noted c.in_err-note_front.ensures.refused c.in_ok-insert.ensures.updates

pub invariant_of-self-2 : goal.invariant_of-self-2
invariant_of-self-2 c =
    let t = c.self.inside in
    let x : Kept = record { base = c.args.base; front = c.args.front } in
    let items = c.in_ok-reserve.ensures.items in
    let next = next_at t.rules.items c.as_slice.result.now c.args.base.now c.in_ok-rank.rank (noted t.ranks c.args.base.now) (c.as_slice.ensures.value ∙ items) (c.self.invariant.0 c.args.base.now) c.in_ok-rank.ensures.rank in
    notes_more t.rules.items c.push.new.self.items x c.in_ok-rank.rank t.ranks c.rank_of.new.ranks t.fronts c.note_front.new.fronts t.lengths c.insert.new.self (c.in_ok-push.ensures.items ∙ ap (λ xs. xs ++ x ∷ []) items) c.self.invariant next c.in_ok-rank.ensures.noted c.in_ok-note_front.ensures.noted c.in_ok-insert.ensures.updates

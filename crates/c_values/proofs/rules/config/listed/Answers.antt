-- The next entry is read and kept, or an item that is none ends the reading.
use Rattle.std.proofs.Common.{◌∙◌, [], ◌∷◌, ◌++◌, ap, subst, sym}
use Rattle.git_rules.specs.ConfigItems.{ReadsItems, start}
use Rattle.c_values.specs.EntryNumbers.{ReadsUpTo}
use Rattle.c_values.proofs.EntryLemmas.{items_of, kept_more, read_all, read_more}
use Rattle.c_values.proofs.rules.config.listed.Goals as goal

pub loop-item-preserved : goal.loop-item-preserved
loop-item-preserved c =
    let l = c.loop-item in
    let found = l.found.items in
    record {
      read = read_more _ l.yielded l.item-iterator c.next.new.self c.in-Some.item l.invariant.read c.in-Some.ensures.steps;
      kept = ap (λ items. items ++ c.in-Some.item ∷ []) l.invariant.kept
          ∙ ap (λ item. items_of found ++ item ∷ []) c.in-Ok.is
          ∙ kept_more found c.in-Ok.entry ∙ ap items_of (sym c.in_ok-keep-in-Ok.ensures);
    }

pub returns-in-Err-clause-refused : goal.returns-in-Err-clause-refused
returns-in-Err-clause-refused c =
    let l = c.loop-item in
    let next = c.next.new.self in
    let more = read_more _ l.yielded l.item-iterator next c.in-Some.item l.invariant.read c.in-Some.ensures.steps in
    let items = ap (λ items. items ++ c.in-Some.item ∷ []) l.invariant.kept ∙ ap (λ item. items_of l.found.items ++ item ∷ []) c.in-Err.is in
    (l.found.items, next, subst (λ done. ReadsUpTo (start c.args.text.now) done next) items more)

pub returns-clause-found : goal.returns-clause-found
returns-clause-found c =
    let l = c.loop-item in
    subst (λ done. ReadsItems (start c.args.text.now) done) l.invariant.kept
    (read_all _ l.yielded l.item-iterator l.invariant.read c.in-None.ensures.steps.0)

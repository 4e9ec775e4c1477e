-- An entry more adds its name if that comes first.
use Rattle.std.proofs.Common.{◌∙◌, ◌∷◌, [], ap, map, not, sym}
use Rattle.std.proofs.lemmas.List.{map-append}
use Rattle.git_modules.specs.SubmoduleInternal.{is_noted}
use Rattle.git_modules.proofs.Listed.NameLemmas.{names_kept, names_pushed, names_same, noted_is, seen_pushed, seen_same}
use Rattle.git_modules.proofs.submodules.names_of.Goals.{in-Some+in_ok-is_new+then-branch+in_ok-push, in-Some+in_ok-is_new+else-branch, in_default}
use Rattle.git_modules.proofs.submodules.names_of.Goals as goal

pub loop-entry-preserved : goal.loop-entry-preserved
loop-entry-preserved c =
    elim c.match-taken_name.branch [
      | in-Some+in_ok-is_new+then-branch+in_ok-push w ↦
          let none = noted_is _ (is_noted c.loop-entry.seen w.in-Some.name.now) w.in_ok-is_new.ensures.is_new ∙ ap not w.if-branch.true in
          let items = ap (λ v. v.items) w.found-is ∙ w.in_ok-push.ensures.items in
          record {
            names = ap (map (λ t. t.now)) items ∙ map-append (λ t. t.now) c.loop-entry.found.items (w.in-Some.name ∷ []) ∙ names_pushed c.args.entries.now c.loop-entry.entry-index c.entry-item.result w.in-Some.name.now _ c.loop-entry-test.true c.entry-item.is w.in-Some.ensures c.loop-entry.invariant.names (sym (c.loop-entry.invariant.seen w.in-Some.name.now) ∙ none);
            seen = λ q. ap (λ m. is_noted m q) w.seen-is ∙ seen_pushed c.args.entries.now c.loop-entry.entry-index c.entry-item.result w.in-Some.name.now q (is_noted c.loop-entry.seen q) _ c.loop-entry-test.true c.entry-item.is w.in-Some.ensures (c.loop-entry.invariant.seen q) (w.in_ok-is_new.ensures.noted q);
          }
      | in-Some+in_ok-is_new+else-branch w ↦
          let before = noted_is _ (is_noted c.loop-entry.seen w.in-Some.name.now) w.in_ok-is_new.ensures.is_new ∙ ap not w.if-branch.false in
          let items = ap (λ v. v.items) w.found-is in
          record {
            names = ap (map (λ t. t.now)) items ∙ names_kept c.args.entries.now c.loop-entry.entry-index c.entry-item.result w.in-Some.name.now _ c.loop-entry-test.true c.entry-item.is w.in-Some.ensures c.loop-entry.invariant.names (sym (c.loop-entry.invariant.seen w.in-Some.name.now) ∙ before);
            seen = λ q. ap (λ m. is_noted m q) w.seen-is ∙ seen_pushed c.args.entries.now c.loop-entry.entry-index c.entry-item.result w.in-Some.name.now q (is_noted c.loop-entry.seen q) _ c.loop-entry-test.true c.entry-item.is w.in-Some.ensures (c.loop-entry.invariant.seen q) (w.in_ok-is_new.ensures.noted q);
          }
      | in_default w ↦
          let items = ap (λ v. v.items) w.found-is in
          record {
            names = ap (map (λ t. t.now)) items ∙ names_same c.args.entries.now c.loop-entry.entry-index c.entry-item.result _ c.loop-entry-test.true c.entry-item.is w.in_default.ensures c.loop-entry.invariant.names;
            seen = λ q. ap (λ m. is_noted m q) w.seen-is ∙ seen_same c.args.entries.now c.loop-entry.entry-index c.entry-item.result q (is_noted c.loop-entry.seen q) c.loop-entry-test.true c.entry-item.is w.in_default.ensures (c.loop-entry.invariant.seen q);
          }
    ]

use Rattle.std.proofs.Common.{refl}
use Rattle.std.proofs.lemmas.List.Elements.{All-push}
use Rattle.git_rules.specs.ConfigItems.{IsEntry}
use Rattle.git_rules.proofs.Entries.ItemLemmas.{all_done, item_done}
use Rattle.git_rules.proofs.Entries.ListingLemmas.{lacks_entry, splits_item}
use Rattle.git_rules.proofs.config.is_listing.Goals as goal

pub returns-then-not-is_entry : goal.returns-then-not-is_entry
returns-then-not-is_entry c =
    let l = c.loop-item in
    (λ e. cc, λ h. absurd (lacks_entry _ l.yielded l.item-iterator c.next.new.self c.in-Some.item l.invariant.splits c.in-Some.ensures.steps (λ k. cc (c.is_entry.ensures.1 k, c.if-not-is_entry.true)) h.0 h.1 h.2))

pub loop-item-preserved : goal.loop-item-preserved
loop-item-preserved c =
    let l = c.loop-item in
    record {
      so_far = item_done _ l.yielded l.item-iterator c.next.new.self c.in-Some.item l.invariant.so_far c.in-Some.ensures.steps;
      splits = splits_item _ l.yielded l.item-iterator c.next.new.self c.in-Some.item l.invariant.splits c.in-Some.ensures.steps;
      entries = All-push IsEntry l.yielded c.in-Some.item l.invariant.entries (c.is_entry.ensures.0 c.if-not-is_entry.false);
    }

pub returns : goal.returns
returns c =
    let l = c.loop-item in
    (λ e. (l.yielded, all_done _ l.yielded l.item-iterator l.invariant.so_far c.in-None.ensures.steps.0, l.invariant.entries), λ h. refl)

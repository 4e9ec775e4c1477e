use Rattle.git_rules.proofs.Entries.ItemLemmas.{all_done, item_done, one_kept}
use Rattle.git_rules.proofs.config.entries.Goals as goal

pub loop-item-preserved : goal.loop-item-preserved
loop-item-preserved c = record {
  so_far = item_done _ c.loop-item.yielded c.loop-item.item-iterator c.next.new.self c.in-Some.item c.loop-item.invariant.so_far c.in-Some.ensures.steps;
  kept = one_kept c.loop-item.yielded c.in-Some.item c.loop-item.found.items _ c.loop-item.invariant.kept c.in_ok-keep.ensures;
}

pub returns : goal.returns
returns c = (c.loop-item.yielded, all_done _ c.loop-item.yielded c.loop-item.item-iterator c.loop-item.invariant.so_far c.in-None.ensures.steps.0, c.loop-item.invariant.kept)

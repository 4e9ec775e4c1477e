use Rattle.std.proofs.Common.{ap, ◌∙◌}
use Rattle.git_rules.proofs.Remoted.UrlLemmas.{rewritten_kept, rewritten_more}
use Rattle.git_rules.proofs.Remoted.ValueLemmas.{values_more, values_same}
use Rattle.git_rules.proofs.remote.rewritten_values.Goals.{in-Some+in_ok-push, in_default}
use Rattle.git_rules.proofs.remote.rewritten_values.Goals as goal

pub loop-entry-preserved : goal.loop-entry-preserved
loop-entry-preserved c =
    elim c.match-value_for.branch [
      | in-Some+in_ok-push w ↦
          let more = values_more c.args.name.now c.args.key.now c.args.entries.now c.loop-entry.entry-index c.entry-item.result w.in-Some.value.now c.loop-entry-test.true c.entry-item.is w.in-Some.ensures in
          rewritten_more c.args.rules.now.fetching _ _ w.in-Some.value.now c.loop-entry.found.items c.match-value_for.found.items w.rewrite_fetch.result more (ap (λ v. v.items) w.found-is ∙ w.in_ok-push.ensures.items) c.loop-entry.invariant w.rewrite_fetch.ensures
      | in_default w ↦
          let same = values_same c.args.name.now c.args.key.now c.args.entries.now c.loop-entry.entry-index c.entry-item.result c.loop-entry-test.true c.entry-item.is w.in_default.ensures in
          rewritten_kept c.args.rules.now.fetching _ _ c.loop-entry.found.items c.match-value_for.found.items same (ap (λ v. v.items) w.found-is) c.loop-entry.invariant
    ]

use Rattle.std.proofs.Common.{None, sym, ap, option_map, take, ◌∙◌}
use Rattle.git_rules.specs.Remotes.{last_of, values_of}
use Rattle.git_rules.proofs.Remoted.ValueLemmas.{last-push, values_more, values_same}
use Rattle.git_rules.proofs.remote.last_value.Goals.{in-Some, in_default}
use Rattle.git_rules.proofs.remote.last_value.Goals as goal

pub loop-entry-preserved : goal.loop-entry-preserved
loop-entry-preserved c =
    elim c.match-value_for.branch [
      | in-Some w ↦
          let more = values_more c.args.name.now c.args.key.now c.args.entries.now c.loop-entry.entry-index c.entry-item.result w.in-Some.value.now c.loop-entry-test.true c.entry-item.is w.in-Some.ensures in
          ap (option_map (λ t. t.now)) w.last-is ∙ sym (ap last_of more ∙ last-push None (values_of c.args.name.now c.args.key.now (take c.loop-entry.entry-index c.args.entries.now)) w.in-Some.value.now)
      | in_default w ↦
          let same = values_same c.args.name.now c.args.key.now c.args.entries.now c.loop-entry.entry-index c.entry-item.result c.loop-entry-test.true c.entry-item.is w.in_default.ensures in
          ap (option_map (λ t. t.now)) w.last-is ∙ c.loop-entry.invariant ∙ sym (ap last_of same)
    ]

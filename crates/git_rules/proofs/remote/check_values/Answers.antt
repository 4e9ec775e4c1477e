use Rattle.std.proofs.Common.{sym, ap, subst, ◌∙◌}
use Rattle.git_rules.specs.Remotes.{LacksFirst}
use Rattle.git_rules.proofs.Remoted.ValueLemmas.{all_values, lacks_here, values_kept}
use Rattle.git_rules.proofs.remote.check_values.Goals as goal

pub returns-then-lacks_value : goal.returns-then-lacks_value
returns-then-lacks_value c =
    subst (LacksFirst c.args.entries.now) (ap (λ e. e.at) (sym c.entry.view_is)) (lacks_here c.args.entries.now c.loop-entry.entry-index c.entry-item.result c.loop-entry-test.true c.entry-item.is c.loop-entry.invariant (sym c.lacks_value.ensures ∙ c.if-lacks_value.true))

pub loop-entry-preserved : goal.loop-entry-preserved
loop-entry-preserved c =
    values_kept c.args.entries.now c.loop-entry.entry-index c.entry-item.result c.loop-entry-test.true c.entry-item.is c.loop-entry.invariant (sym c.lacks_value.ensures ∙ c.if-lacks_value.false)

pub returns : goal.returns
returns c = all_values c.args.entries.now c.loop-entry.entry-index c.loop-entry-test.false c.loop-entry.invariant

use Rattle.std.proofs.Common.{◌∙◌}
use Rattle.git_rules.proofs.Remoted.ValueLemmas.{first_found, values_same}
use Rattle.git_rules.proofs.remote.first_value.Goals as goal

pub returns-in-Some : goal.returns-in-Some
returns-in-Some c =
    first_found c.args.name.now c.args.key.now c.args.entries.now c.loop-entry.entry-index c.entry-item.result c.in-Some.value.now c.loop-entry-test.true c.entry-item.is c.in-Some.ensures c.loop-entry.invariant

pub loop-entry-preserved : goal.loop-entry-preserved
loop-entry-preserved c =
    values_same c.args.name.now c.args.key.now c.args.entries.now c.loop-entry.entry-index c.entry-item.result c.loop-entry-test.true c.entry-item.is c.in_default.ensures ∙ c.loop-entry.invariant

-- With no label left of the pattern, the rest is empty if it matches.
use Rattle.git_rules.proofs.Matched.LabelLemmas.{at_end}
use Rattle.git_rules.proofs.pattern.matches_host.Goals as goal

pub returns : goal.returns
returns c =
    at_end c.args.pattern.now c.args.host.now c.loop-label.wanted.now c.loop-label.rest.now c.is_empty.result c.in_default.ensures c.is_empty.ensures c.loop-label.invariant

-- By the text after the front.
use Rattle.git_rules.proofs.Matched.PathLemmas.{below_none, below_ends, below_goes_on}
use Rattle.git_rules.proofs.pattern.is_below.Goals as goal

pub returns-in-None : goal.returns-in-None
returns-in-None c = below_none c.args.front.now c.args.path.now c.in-None.ensures

pub returns-then-is_empty : goal.returns-then-is_empty
returns-then-is_empty c =
    below_ends c.args.front.now c.args.path.now c.in-Some.rest.now c.is_empty.result c.in-Some.ensures c.is_empty.ensures c.if-is_empty.true

pub returns-else-is_empty : goal.returns-else-is_empty
returns-else-is_empty c =
    below_goes_on c.args.front.now c.args.path.now c.in-Some.rest.now c.is_empty.result c.starts_with_byte.result c.in-Some.ensures c.is_empty.ensures c.if-is_empty.false c.starts_with_byte.ensures

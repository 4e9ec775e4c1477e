-- The first `@[`, or else a bracket at the front.
use Rattle.git_reads.proofs.Texts.PlaceLemmas.{opened_after, opened_front, unopened}
use Rattle.git_reads.proofs.place.opened_host.Goals as goal

pub returns-in-Some : goal.returns-in-Some
returns-in-Some c =
    opened_after c.args.text.now c.split_at.result.0.now c.split_at-in-Some.result.1.now c.in-Some.at c.in-Some.ensures c.split_at.ensures.front c.split_at-in-Some.ensures.back

pub returns-in-Some-after : goal.returns-in-Some-after
returns-in-Some-after c =
    opened_front c.args.text.now c.split_at-in-Some-after.result.0.now c.in-Some-after.rest.now c.in-None.ensures c.split_at-in-Some-after.ensures.front c.in-Some-after.ensures

pub returns-in-None-after : goal.returns-in-None-after
returns-in-None-after c = (unopened c.args.text.now c.in-None.ensures, c.in-None-after.ensures)

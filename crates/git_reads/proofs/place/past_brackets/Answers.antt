-- The text up to the closing bracket, or nothing.
use Rattle.std.proofs.Common.{refl}
use Rattle.git_reads.specs.Git.{HostEnd}
use Rattle.git_reads.proofs.Texts.PlaceLemmas.{brackets_end}
use Rattle.git_reads.proofs.place.past_brackets.Goals as goal

pub returns-in-Some-clause-end : goal.returns-in-Some-clause-end
returns-in-Some-clause-end c =
    let found = c.in-Some.found in
    brackets_end c.args.text.now found.front.now found.inside.now found.suffix.now c.split_at.result.0.now c.split_at.result.1.now _ c.in-Some.ensures refl c.split_at.ensures.front c.split_at.ensures.back

pub returns-in-None-clause-end : goal.returns-in-None-clause-end
returns-in-None-clause-end c = HostEnd.none c.in-None.ensures c.split_at-in-None.ensures.front c.split_at-in-None.ensures.back

-- By the one normal form of the URL, if there is one.
use Rattle.std.proofs.Common.{length, true}
use Rattle.std.proofs.lemmas.Bool.{both_ways}
use Rattle.git_rules.proofs.Matched.EntryLemmas.{long_enough, no_form, too_short, url_ranked}
use Rattle.git_rules.proofs.pattern.entries.url_rank.Goals as goal

pub returns-in-Ok-clause-rank : goal.returns-in-Ok-clause-rank
returns-in-Ok-clause-rank c = url_ranked c.args.place.now c.in-Ok.pattern c.args.url.now c.rank_for.result c.in-Ok.ensures.1 c.rank_for.ensures

pub returns-then-is_short_buffer-clause-rank : goal.returns-then-is_short_buffer-clause-rank
returns-then-is_short_buffer-clause-rank c =
    let same = c.is_short_buffer.ensures.0 c.if-is_short_buffer.true in
    (same, too_short c.args.url.now (length c.args.buffer.now) c.in-Err.error same c.in-Err.ensures)

pub returns-else-is_short_buffer-clause-rank : goal.returns-else-is_short_buffer-clause-rank
returns-else-is_short_buffer-clause-rank c =
    λ k ranked. no_form true c.args.url.now (length c.args.buffer.now) c.in-Err.error (λ same. both_ways _ c.if-is_short_buffer.false (c.is_short_buffer.ensures.1 same)) c.in-Err.ensures ranked.0 ranked.1

pub returns-else-is_short_buffer-clause-buffer : goal.returns-else-is_short_buffer-clause-buffer
returns-else-is_short_buffer-clause-buffer c =
    long_enough true c.args.url.now (length c.args.buffer.now) c.in-Err.error (λ same. both_ways _ c.if-is_short_buffer.false (c.is_short_buffer.ensures.1 same)) c.in-Err.ensures

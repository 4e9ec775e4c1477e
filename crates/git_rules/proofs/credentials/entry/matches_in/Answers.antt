-- By the one normal form of the URL, if there is one.
use Rattle.std.proofs.Common.{true}
use Rattle.std.proofs.lemmas.Bool.{both_ways}
use Rattle.git_rules.proofs.Matched.EntryLemmas.{no_form}
use Rattle.git_rules.proofs.credentials.entry.matches_in.Goals as goal

pub returns-else-is_short_buffer : goal.returns-else-is_short_buffer
returns-else-is_short_buffer c =
    no_form true c.args.url.now _ c.in-Err.error (λ same. both_ways _ c.if-is_short_buffer.false (c.is_short_buffer.ensures.1 same)) c.in-Err.ensures

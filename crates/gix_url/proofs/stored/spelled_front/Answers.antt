-- Each byte is spelled as its case has it.
use Rattle.std.proofs.Common.{sym, ◌∙◌}
use Rattle.git_laws.proofs.Records.RecordLemmas.{front_begins, front_kept, front_escaped}
use Rattle.gix_url.proofs.stored.spelled_front.Goals as goal

pub returns-then-begins_escape : goal.returns-then-begins_escape
returns-then-begins_escape c =
    front_begins _ _ _ _ _ c.in_ok-first.ensures.cases.0 c.split_at.ensures.front c.split_at.ensures.back (sym c.if-begins_escape.ensures)

pub returns-then-should_percent_encode : goal.returns-then-should_percent_encode
returns-then-should_percent_encode c =
    front_escaped _ _ _ _ c.in_ok-first.ensures.cases.0 (c.as_bytes.ensures.value ∙ c.percent_encode_byte.ensures) (sym c.if-begins_escape.ensures) (sym c.if-should_percent_encode.ensures)

pub returns : goal.returns
returns c =
    front_kept _ _ _ _ _ c.in_ok-first.ensures.cases.0 c.split_at-2.ensures.front c.split_at-2.ensures.back (sym c.if-begins_escape.ensures) (sym c.if-should_percent_encode.ensures)

-- A place that is put is the one that Git reads, and the reason why there is none is the one that the reading
-- returns.
use Rattle.std.proofs.Common.{refl}
use mathlib.Core.Logic.{inl, inr}
use Rattle.git_reads.specs.Views.{git_reading}
use Rattle.c_values.proofs.CallLemmas.{unless_memory}
use Rattle.gix_url_c.proofs.rules.readings.gix_url_c_git_reading.Goals as goal

pub returns-in-Ok-clause-reported : goal.returns-in-Ok-clause-reported
returns-in-Ok-clause-reported c =
    unless_memory c.write_place.result (λ put. inr (git_reading c.in-Ok.place, c.in-Ok.ensures.read, put)) c.write_place.ensures.reported

pub returns-clause-reported : goal.returns-clause-reported
returns-clause-reported c =
    let why = c.in-Err.ensures in
    unless_memory c.tell_unread.result (λ unread. inl (c.in-Err.why, why.none unread.0, why.why, refl, unread)) c.tell_unread.ensures.reported

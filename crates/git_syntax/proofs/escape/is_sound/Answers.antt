-- The first `%` and the run after it decide.
use Rattle.std.proofs.Common.{◌∙◌, sym}
use Rattle.git_syntax.proofs.Texts.EscapeLemmas.{sound_free}
use Rattle.git_syntax.proofs.Texts.RunLemmas.{broken_at_cut, sound_past_run}
use Rattle.git_syntax.proofs.escape.is_sound.Goals as goal

pub returns-in_default-past_run : goal.returns-in_default-past_run
returns-in_default-past_run c =
    sym (broken_at_cut c.loop-suffix.rest.now c.in-Some.field-0-0.now c.in-Some.suffix.now c.in-Some.ensures.1 c.in-Some.ensures.0 c.in_default-past_run.ensures) ∙ c.loop-suffix.invariant

pub loop-suffix-preserved : goal.loop-suffix-preserved
loop-suffix-preserved c =
    sound_past_run c.in-Some-past_run.field-0-0 c.loop-suffix.rest.now c.in-Some.field-0-0.now c.in-Some.suffix.now c.in-Some-past_run.left.now c.in-Some.ensures.1 c.in-Some.ensures.0 c.in-Some-past_run.ensures ∙ c.loop-suffix.invariant

pub returns : goal.returns
returns c = sym (sound_free c.loop-suffix.rest.now c.in_default.ensures) ∙ c.loop-suffix.invariant

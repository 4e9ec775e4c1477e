-- The first `%` and the run after it decide.
use Rattle.std.proofs.Common.{◌∙◌, sym}
use Rattle.git_syntax.proofs.Texts.EscapeLemmas.{sound_free}
use Rattle.git_syntax.proofs.Texts.LookLemmas.{high_free}
use Rattle.git_syntax.proofs.Texts.RunLemmas.{low_past_run, sound_past_run}
use Rattle.git_syntax.proofs.byte_class.escape_class_of.Goals as goal

pub loop-suffix-preserved : goal.loop-suffix-preserved
loop-suffix-preserved c =
    let rest = c.loop-suffix.rest.now in
    let front = c.in-Some.field-0-0.now in
    let suffix = c.in-Some.suffix.now in
    let left = c.in-Some-past_run.left.now in
    let low = c.in-Some-past_run.low in
    let run = c.in-Some-past_run.ensures in record {
      sound = sound_past_run low rest front suffix left c.in-Some.ensures.1 c.in-Some.ensures.0 run ∙ c.loop-suffix.invariant.sound;
      high = low_past_run c.loop-suffix.ascii low c.args.text.now rest front suffix left c.in-Some.ensures.1 c.in-Some.ensures.0 run c.loop-suffix.invariant.high;
    }

pub returns-then-ascii : goal.returns-then-ascii
returns-then-ascii c = record {
  printable = c.requires;
  sound = sym (sym (sound_free c.loop-suffix.rest.now c.in_default.ensures) ∙ c.loop-suffix.invariant.sound);
  low = sym (c.loop-suffix.invariant.high c.if-ascii.true) ∙ high_free c.loop-suffix.rest.now c.in_default.ensures;
}

pub returns-else-ascii : goal.returns-else-ascii
returns-else-ascii c = record { printable = c.requires; sound = sym (sym (sound_free c.loop-suffix.rest.now c.in_default.ensures) ∙ c.loop-suffix.invariant.sound) }

-- Segment after segment is put on the stack.
use Rattle.std.proofs.Common.{◌∙◌, ◌∷◌, ap, sym, subst, refl, length, arith, length-append}
use Rattle.git_syntax.specs.Bytes.{slash}
use Rattle.git_syntax.specs.Escapes.{is_sound}
use Rattle.git_syntax.proofs.Texts.EscapeLemmas.{sound_around}
use Rattle.git_rules.specs.Normal.{normal_segments, write_segments}
use Rattle.git_rules.specs.NormalPieces.{ShowsFront}
use Rattle.git_rules.proofs.NormalForms.NormalPathLemmas.{write_first, write_last, write_none}
use Rattle.git_rules.proofs.normal.path.write_path.Goals as goal

pub write_segment-requires-clause-sound : goal.write_segment-requires-clause-sound
write_segment-requires-clause-sound c =
    (sound_around c.in-Some.segment.now c.in-Some.suffix.now slash refl (sym (ap is_sound c.in-Some.ensures.1) ∙ c.loop-segment.invariant.sound)).0

pub returns-in_err-at-clause-path : goal.returns-in_err-at-clause-path
returns-in_err-at-clause-path c =
    let inv = c.loop-segment.invariant in
    let none = c.in_err-at.ensures.path inv.stack inv.shown c.in-Some.ensures.0 in
    rw c.from_residual.ensures (sym inv.left ∙ ap (λ z. write_segments (normal_segments z) inv.stack) c.in-Some.ensures.1 ∙ write_none c.in-Some.segment.now c.in-Some.suffix.now inv.stack c.in-Some.ensures.0 none)

pub loop-segment-preserved : goal.loop-segment-preserved
loop-segment-preserved c =
    let inv = c.loop-segment.invariant in
    let shown = c.in_ok-at.ensures.path inv.stack inv.shown c.in-Some.ensures.0 in
    let segment = c.in-Some.segment.now in
    let suffix = c.in-Some.suffix.now in record {
      stack = shown.0;
      shown = shown.2;
      left = sym (write_first segment suffix inv.stack shown.0 c.in-Some.ensures.0 shown.1) ∙ sym (ap (λ z. write_segments (normal_segments z) inv.stack) c.in-Some.ensures.1) ∙ inv.left;
      sound = (sound_around segment suffix slash refl (sym (ap is_sound c.in-Some.ensures.1) ∙ inv.sound)).1;
      buffer_left = omega (arith, c.in_ok-at.ensures.most, inv.buffer_left, ap length c.in-Some.ensures.1, length-append segment (slash ∷ suffix));
      kept = omega (arith, c.write_segment.auto.buffer, inv.kept);
    }

pub returns-clause-path : goal.returns-clause-path
returns-clause-path c =
    let inv = c.loop-segment.invariant in
    let rest = c.loop-segment.rest.now in
    let shown = c.write_segment-2.ensures.path inv.stack inv.shown c.in_default.ensures in
    subst (λ o. ShowsFront o c.write_segment-2.new.buffer c.write_segment-2.result) (sym (write_last rest inv.stack c.in_default.ensures) ∙ inv.left) shown

-- The pieces of the text after the authority are as sound, and fit the buffer.
use Rattle.std.proofs.Common.{◌∙◌, ap, sym, arith}
use Rattle.git_syntax.specs.Escapes.{is_sound}
use Rattle.git_rules.proofs.NormalForms.NormalPathLemmas.{sound_cut, sound_unrooted, length-pieces}
use Rattle.git_rules.proofs.normal.path.path_in.Goals as goal

pub write_path-requires-clause-sound : goal.write_path-requires-clause-sound
write_path-requires-clause-sound c =
    (sound_cut c.unrooted.result.now c.cut_before_rest.result.0.now c.cut_before_rest.result.1.now c.cut_before_rest.ensures (ap is_sound c.unrooted.ensures ∙ sound_unrooted c.args.suffix.now (sym c.if-not-is_sound.ensures))).0

pub write_path-requires-clause-buffer : goal.write_path-requires-clause-buffer
write_path-requires-clause-buffer c =
    let fits = length-pieces c.args.suffix.now c.unrooted.result.now c.cut_before_rest.result.0.now c.cut_before_rest.result.1.now c.unrooted.ensures c.cut_before_rest.ensures in
    omega (arith, fits, c.requires)

pub write_normal-end-requires-clause-sound : goal.write_normal-end-requires-clause-sound
write_normal-end-requires-clause-sound c =
    (sound_cut c.unrooted.result.now c.cut_before_rest.result.0.now c.cut_before_rest.result.1.now c.cut_before_rest.ensures (ap is_sound c.unrooted.ensures ∙ sound_unrooted c.args.suffix.now (sym c.if-not-is_sound.ensures))).1

pub write_normal-end-requires-clause-buffer : goal.write_normal-end-requires-clause-buffer
write_normal-end-requires-clause-buffer c =
    let fits = length-pieces c.args.suffix.now c.unrooted.result.now c.cut_before_rest.result.0.now c.cut_before_rest.result.1.now c.unrooted.ensures c.cut_before_rest.ensures in
    omega (arith, fits, c.requires, c.in-Some.ensures.most, c.write_root-at.ensures.end, c.write_path.auto.buffer, c.write_root-at.auto.buffer)

pub split_at_mut-path-requires : goal.split_at_mut-path-requires
split_at_mut-path-requires c =
    let fits = length-pieces c.args.suffix.now c.unrooted.result.now c.cut_before_rest.result.0.now c.cut_before_rest.result.1.now c.unrooted.ensures c.cut_before_rest.ensures in
    omega (arith, fits, c.requires, c.in-Some.ensures.most, c.write_root-at.ensures.end, c.write_path.auto.buffer, c.write_root-at.auto.buffer, c.write_normal-end.auto.buffer, c.write_normal-end.ensures.most)

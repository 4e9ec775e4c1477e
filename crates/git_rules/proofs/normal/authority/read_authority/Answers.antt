-- The user precedes the first `@`.
use Rattle.std.proofs.Common.{refl, sym, ap, ◌∷◌, length, arith, length-append}
use Rattle.git_syntax.specs.Bytes.{at_sign}
use Rattle.git_rules.specs.Normal.{NormalAuthority}
use Rattle.git_rules.proofs.NormalForms.NormalHostLemmas.{user_fits, user_sound}
use Rattle.git_rules.proofs.normal.authority.read_authority.Goals as goal

pub returns : goal.returns
returns c =
    let info = c.in-Some.info.now in
    let rest = c.in-Some.rest.now in
    let user = c.user_of.result.now in
    let sound = sym c.if-not-is_sound.ensures in
    let read = c.in_ok-host-2.ensures in record {
      form = NormalAuthority.with_user info rest user c.in-Some.ensures.0 c.in-Some.ensures.1 sound c.user_of.ensures refl read.form;
      sound = user_sound info user c.user_of.ensures sound;
      fits = omega (arith, user_fits info user c.user_of.ensures, read.fits, ap length c.in-Some.ensures.1, length-append info (at_sign ∷ rest));
    }

-- The first `%` is broken, or its text is broken further on.
use Rattle.std.proofs.Common.{◌+◌, ◌∷◌, ◌&&◌, sym, ap, subst, ◌∙◌, arith, length, length-append}
use Rattle.std.proofs.lemmas.Bool.{both_ways}
use Rattle.git_syntax.specs.Bytes.{percent_sign}
use Rattle.git_syntax.specs.Escapes.{is_sound}
use Rattle.git_syntax.proofs.Texts.AsciiLemmas.{sound_at_cut}
use Rattle.git_syntax.proofs.Texts.EscapeLemmas.{sound_free}
use Rattle.git_refusals.specs.Characters.{IsBrokenAt}
use Rattle.git_refusals.proofs.Refusing.PlaceLemmas.{broken_first, broken_later}
use Rattle.git_refusals.proofs.escapes.broken_escape.Goals as goal

pub returns-then-not-begins_with_digits : goal.returns-then-not-begins_with_digits
returns-then-not-begins_with_digits c =
    let front = c.in-Some.field-0-0.now in
    let suffix = c.in-Some.suffix.now in
    let here = broken_first front suffix c.in-Some.ensures.0 (sym c.if-not-begins_with_digits.ensures) in
    c.loop-suffix.invariant.further (length front) _ (subst (λ t. IsBrokenAt t (length front)) (sym c.in-Some.ensures.1) here)
    (omega (arith, ap length c.in-Some.ensures.1, length-append front (percent_sign ∷ suffix), c.loop-suffix.invariant.within))

pub loop-suffix-preserved : goal.loop-suffix-preserved
loop-suffix-preserved c =
    let front = c.in-Some.field-0-0.now in
    let suffix = c.in-Some.suffix.now in
    let digits = sym c.if-not-begins_with_digits.ensures in
    record {
      unsound = sym (ap is_sound c.in-Some.ensures.1 ∙ sound_at_cut front suffix c.in-Some.ensures.0 ∙ ap (λ b. b && is_sound suffix) digits) ∙ c.loop-suffix.invariant.unsound;
      further = λ at place h e.
          c.loop-suffix.invariant.further (length front + (at + 1)) place (subst (λ t. IsBrokenAt t (length front + (at + 1))) (sym c.in-Some.ensures.1) (broken_later front suffix at c.in-Some.ensures.0 digits h))
          (omega (arith, e, ap length c.in-Some.ensures.1, length-append front (percent_sign ∷ suffix)));
      within = omega (arith, ap length c.in-Some.ensures.1, length-append front (percent_sign ∷ suffix), c.loop-suffix.invariant.within);
    }

pub returns : goal.returns
returns c = absurd (both_ways _ c.loop-suffix.invariant.unsound (sound_free c.loop-suffix.rest.now c.in_default.ensures))

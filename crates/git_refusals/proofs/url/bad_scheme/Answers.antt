-- A scheme begins with a letter, and its first wrong character is found.
use Rattle.std.proofs.Common.{length, refl, sym, ap, subst, ◌∙◌, arith, true}
use Rattle.std.specs.Prelude.{slice_get}
use Rattle.git_refusals.specs.Characters.{IsCharacterAt}
use Rattle.git_refusals.specs.Reasons.{BadScheme}
use Rattle.git_refusals.proofs.Refusing.SchemeLemmas.{nothing_first, starts, scheme_read, no_character, first_at_front}
use Rattle.git_refusals.proofs.url.bad_scheme.Goals as goal

pub returns-in_default : goal.returns-in_default
returns-in_default c = record {
  found = BadScheme.missing (nothing_first c.args.scheme.now (c.in_default.ensures.value ∙ ap (λ t. slice_get t 0) c.as_bytes.ensures.value)) (record { named = refl; start = refl; size = refl });
  within = omega arith;
}

pub returns-in_err-at : goal.returns-in_err-at
returns-in_err-at c =
    let (rest, e) = starts c.args.scheme.now c.in-Some.first.now (c.in-Some.ensures.value ∙ ap (λ t. slice_get t 0) c.as_bytes.ensures.value) in
    rw c.from_residual.ensures (record {
      found = scheme_read c.args.scheme.now c.in-Some.first.now rest c.utf8.scheme e (sym c.if-is_ascii_alphabetic.ensures.value) c.in_err-at.ensures.found;
      within = tt;
    })

pub returns-then-is_ascii_alphabetic : goal.returns-then-is_ascii_alphabetic
returns-then-is_ascii_alphabetic c =
    let (rest, e) = starts c.args.scheme.now c.in-Some.first.now (c.in-Some.ensures.value ∙ ap (λ t. slice_get t 0) c.as_bytes.ensures.value) in
    record {
      found = BadScheme.bad_character c.in-Some.first.now rest e (sym c.if-is_ascii_alphabetic.ensures.value) (record { named = refl; stands = c.in_ok-at.ensures.found });
      within = c.in_ok-at.ensures.within;
    }

pub returns-in_err-at-2 : goal.returns-in_err-at-2
returns-in_err-at-2 c =
    let (rest, e) = starts c.args.scheme.now c.in-Some.first.now (c.in-Some.ensures.value ∙ ap (λ t. slice_get t 0) c.as_bytes.ensures.value) in
    absurd (omega (arith, ap length e, ap length (no_character c.args.scheme.now c.utf8.scheme c.in_err-at-2.ensures.found)))

pub returns : goal.returns
returns c =
    let (rest, e) = starts c.args.scheme.now c.in-Some.first.now (c.in-Some.ensures.value ∙ ap (λ t. slice_get t 0) c.as_bytes.ensures.value) in
    let front = first_at_front c.args.scheme.now c.in_ok-at-2.at c.in_ok-at-2.len c.in_ok-at-2.ensures.found in
    record {
      found =
          BadScheme.bad_start c.in-Some.first.now rest c.in_ok-at-2.len e (sym c.if-is_ascii_alphabetic.ensures.value)
          (subst (λ n. IsCharacterAt (λ _. true) c.args.scheme.now n c.in_ok-at-2.len) front c.in_ok-at-2.ensures.found)
          (record { named = refl; start = front; size = refl });
      within = c.in_ok-at-2.ensures.within;
    }

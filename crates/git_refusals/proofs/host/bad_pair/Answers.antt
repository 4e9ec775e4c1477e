-- The text in the place of the port is tested first, then the host, then the number.
use Rattle.std.proofs.Common.{refl, sym, subst, arith, ◌+◌, ◌≤◌, ◌∷◌, length, length-append}
use Rattle.git_syntax.specs.Bytes.{colon}
use Rattle.git_syntax.specs.Internal.HostPieces.{host_syntax}
use Rattle.git_refusals.specs.Reasons.{BadHost, NoDigits, PortOutside, Then}
use Rattle.git_refusals.proofs.Refusing.PassLemmas.{after_passes, digits_pass}
use Rattle.git_refusals.proofs.Refusing.HostLemmas.{host_passes, plain_named}
use Rattle.git_refusals.proofs.host.bad_pair.Goals as goal
use Rattle.git_refusals.proofs.host.bad_pair.Goals.{in-Some, in-None+in-None-bad_name+in_ok-found-in-None-bad_name}

pub returns-in-Some-bad_name : goal.returns-in-Some-bad_name
returns-in-Some-bad_name c = record {
  found = BadHost.with_port c.args.text.now c.args.digits.now c.requires.plain c.requires.no_colon refl
      (Then.at_second (after_passes (length c.args.text.now + 1) (NoDigits c.args.digits.now) (digits_pass c.args.digits.now c.in-None.ensures.found)) (Then.at_first c.in-Some-bad_name.ensures.found));
  within = omega (arith, c.in-Some-bad_name.ensures.within, length-append c.args.text.now (colon ∷ c.args.digits.now));
}

pub returns-in_err-found-in-None-bad_name : goal.returns-in_err-found-in-None-bad_name
returns-in_err-found-in-None-bad_name c =
    rw c.from_residual.ensures
    (record {
      found = plain_named (host_syntax c.args.syntax) c.args.text.now c.args.digits.now c.requires.plain c.in-None-bad_name.ensures.found c.in_err-found-in-None-bad_name.ensures.found;
      within = tt;
    })

pub returns : goal.returns
returns c =
    elim c.match-no_digits.branch [
      | in-Some w ↦ record {
        found = BadHost.with_port c.args.text.now c.args.digits.now c.requires.plain c.requires.no_colon refl
            (Then.at_first (record { inside = c.match-no_digits.found; found = subst (NoDigits c.args.digits.now) (sym w.found-is) w.in-Some.ensures.found; stands = record { named = refl; start = refl; size = refl } }));
        within = omega (arith, subst (λ p. p.at + p.len ≤ length c.args.digits.now) (sym w.found-is) w.in-Some.ensures.within, length-append c.args.text.now (colon ∷ c.args.digits.now));
      }
      | in-None+in-None-bad_name+in_ok-found-in-None-bad_name w ↦ record {
        found = BadHost.with_port c.args.text.now c.args.digits.now c.requires.plain c.requires.no_colon refl
            (Then.at_second (after_passes (length c.args.text.now + 1) (NoDigits c.args.digits.now) (digits_pass c.args.digits.now w.in-None.ensures.found))
            (Then.at_second (host_passes (host_syntax c.args.syntax) c.args.text.now w.in-None-bad_name.ensures.found)
            (record { inside = c.match-no_digits.found; found = subst (PortOutside (host_syntax c.args.syntax) c.args.digits.now) (sym w.found-is) w.in_ok-found-in-None-bad_name.ensures.found; stands = record { named = refl; start = refl; size = refl } })));
        within = omega (arith, subst (λ p. p.at + p.len ≤ length c.args.digits.now) (sym w.found-is) w.in_ok-found-in-None-bad_name.ensures.within, length-append c.args.text.now (colon ∷ c.args.digits.now));
      }
    ]

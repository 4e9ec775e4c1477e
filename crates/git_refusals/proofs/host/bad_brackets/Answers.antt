-- The text between brackets, and the text after it.
use Rattle.std.proofs.Common.{refl, ap, arith, ◌∷◌, ◌++◌, length, length-append}
use Rattle.git_syntax.specs.Bytes.{left_bracket, right_bracket}
use Rattle.git_syntax.specs.Internal.HostPieces.{host_syntax}
use Rattle.git_syntax.proofs.Parsing.HostLemmas.{some_tested}
use Rattle.git_refusals.specs.Reasons.{BadHost}
use Rattle.git_refusals.proofs.Refusing.HostLemmas.{closed_alone, closed_port, ended, inner_passes}
use Rattle.git_refusals.proofs.host.bad_brackets.Goals as goal

pub returns-then-not-is_empty : goal.returns-then-not-is_empty
returns-then-not-is_empty c =
    let w = c.before_colon-wrong.ensures in
    let wrong = c.before_colon-wrong.result.now in
    record {
      found = BadHost.after_bracket c.args.inner.now wrong w.rest c.requires w.no_colon (some_tested wrong c.if-not-is_empty.ensures) w.followed (ap (λ t. left_bracket ∷ (c.args.inner.now ++ right_bracket ∷ t)) w.joined) (record { named = refl; start = refl; size = refl });
      within = omega (arith, ap length w.joined, length-append wrong w.rest, length-append c.args.inner.now (right_bracket ∷ c.args.rest.now));
    }

pub returns-in-Some : goal.returns-in-Some
returns-in-Some c = record {
  found = BadHost.between c.args.inner.now c.args.rest.now
      (record { closed = c.requires; joined = refl; followed = ended c.args.rest.now c.before_colon-wrong.result.now c.if-not-is_empty.ensures c.before_colon-wrong.ensures })
      (record { inside = c.in-Some.place; found = c.in-Some.ensures.found; stands = record { named = refl; start = refl; size = refl } });
  within = omega (arith, c.in-Some.ensures.within, length-append c.args.inner.now (right_bracket ∷ c.args.rest.now));
}

pub returns-in_err-digits : goal.returns-in_err-digits
returns-in_err-digits c =
    rw c.from_residual.ensures
    (record {
      found = closed_alone (host_syntax c.args.syntax) c.args.inner.now c.args.rest.now c.requires c.in_default.ensures.found (ended c.args.rest.now c.before_colon-wrong.result.now c.if-not-is_empty.ensures c.before_colon-wrong.ensures) c.in_err-digits.ensures;
      within = tt;
    })

pub returns-in_err-place : goal.returns-in_err-place
returns-in_err-place c =
    rw c.from_residual-in_err-place.ensures
    (record {
      found = closed_port (host_syntax c.args.syntax) c.args.inner.now c.args.rest.now c.in_ok-digits.digits.now c.requires c.in_default.ensures.found c.in_ok-digits.ensures c.in_err-place.ensures.found;
      within = tt;
    })

pub returns : goal.returns
returns c = record {
  found = BadHost.port_after c.args.inner.now c.in_ok-digits.digits.now c.requires (inner_passes (host_syntax c.args.syntax) c.args.inner.now c.in_default.ensures.found) (ap (λ t. left_bracket ∷ (c.args.inner.now ++ right_bracket ∷ t)) c.in_ok-digits.ensures)
      (record { inside = c.in_ok-place.place; found = c.in_ok-place.ensures.found; stands = record { named = refl; start = refl; size = refl } });
  within = omega (arith, c.in_ok-place.ensures.within, ap length c.in_ok-digits.ensures, length-append c.args.inner.now (right_bracket ∷ c.args.rest.now));
}

-- The result for the built location is the result for the passed one.
use Rattle.std.proofs.Common.{refl, subst, IsTrue, ◌↔◌}
use mathlib.Core.Logic.{inr}
use Rattle.gix_url.specs.Settled.{IsSettled}
use Rattle.gix_url_c.proofs.writing.gix_url_c_is_settled.Goals as goal

pub returns-in-Some-clause-reported : goal.returns-in-Some-clause-reported
returns-in-Some-clause-reported c =
    let seen = subst (λ v. IsTrue c.is_settled.result ↔ IsSettled v) c.in-Some.ensures.built c.is_settled.ensures.decided in
    inr (c.in-Some.ensures.whole, (refl, seen))

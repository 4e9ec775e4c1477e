-- The result for the built location is the result for the passed one.
use Rattle.std.proofs.Common.{refl, subst, IsTrue, ◌↔◌}
use mathlib.Core.Logic.{inr}
use Rattle.gix_url.specs.GitClass.{AgreesWithGit}
use Rattle.gix_url_c.proofs.writing.gix_url_c_agrees_with_git.Goals as goal

pub returns-in-Some-clause-reported : goal.returns-in-Some-clause-reported
returns-in-Some-clause-reported c =
    let seen = subst (λ v. IsTrue c.agrees_with_git.result ↔ AgreesWithGit v) c.in-Some.ensures.built c.agrees_with_git.ensures in
    inr (c.in-Some.ensures.whole, (refl, seen))

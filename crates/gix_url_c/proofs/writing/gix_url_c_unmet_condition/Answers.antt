-- The result for the built location is the result for the passed one.
use Rattle.std.proofs.Common.{refl, subst, ◌↔◌, IsNone, IfSome}
use mathlib.Core.Logic.{inr}
use Rattle.git_readers.specs.Conditions.{IsFirstUnmet, IsUnambiguous}
use Rattle.gix_url_c.proofs.ConditionLemmas.{first_by_number}
use Rattle.gix_url_c.proofs.writing.gix_url_c_unmet_condition.Goals as goal

pub returns-in-Some-clause-reported : goal.returns-in-Some-clause-reported
returns-in-Some-clause-reported c =
    let answer = c.unmet_condition.result in
    let built = c.in-Some.ensures.built in
    let met = subst (λ v. IsNone answer ↔ IsUnambiguous v) built c.unmet_condition.ensures.met in
    let first = subst (λ v. IfSome answer (λ unmet. IsFirstUnmet unmet v)) built c.unmet_condition.ensures.first in
    inr (c.in-Some.ensures.whole, (refl, first_by_number answer _ _ c.condition_reported.ensures met first))

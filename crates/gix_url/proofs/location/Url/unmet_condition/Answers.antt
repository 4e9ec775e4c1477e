-- The borrowed location is the location.
use Rattle.std.proofs.Common.{IfSome, subst}
use Rattle.git_readers.specs.Conditions.{IsFirstUnmet}
use Rattle.gix_url.proofs.location.Url.unmet_condition.Goals as goal

pub returns-clause-first : goal.returns-clause-first
returns-clause-first c =
    subst (λ v. IfSome c.unmet_condition.result (λ condition. IsFirstUnmet condition v)) c.as_ref.ensures c.unmet_condition.ensures.first

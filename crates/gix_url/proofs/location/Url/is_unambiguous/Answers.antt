-- An unambiguous location agrees with Git, so it is settled.
use Rattle.std.proofs.Common.{subst}
use Rattle.git_readers.specs.declared.unambiguous.Condition.TheVariants as condition
use Rattle.git_location.specs.Settled.{IsSettled}
use Rattle.git_class.proofs.Classes.AgreementLemmas.{agreeing_is_settled}
use Rattle.gix_url.proofs.location.Url.is_unambiguous.Goals as goal

pub returns-clause-settled : goal.returns-clause-settled
returns-clause-settled c true = subst IsSettled c.as_ref.ensures (agreeing_is_settled _ (c.is_unambiguous.ensures.0 true condition.Git))

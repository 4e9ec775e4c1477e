-- Each law is a lemma.
use Rattle.std.proofs.Common.{inl, inr}
use Rattle.git_laws.specs.Laws.{Unchanged}
use Rattle.git_laws.proofs.SettledClass.ClosedLemmas.{closed, exact}
use Rattle.git_laws.proofs.Errors.ExceptionLemmas.{apart}
use Rattle.git_laws.proofs.Writing.KeptLemmas.{kept_exact}
use Rattle.git_location.proofs.SettledClass.UnchangedLemmas.{helper_unchanged, local_unchanged}
use Rattle.git_laws.proofs.SettledClass.WritableLemmas.{writable}
use Rattle.git_laws.proofs.laws.law_closed.Goals as goal

-- both forms write what they read
unchanged : Unchanged
unchanged b v (inl h) = helper_unchanged b v h
unchanged b v (inr h) = local_unchanged b v h

pub returns : goal.returns
returns c = record {
  closed = closed;
  apart = apart;
  exact = exact;
  unchanged = unchanged;
  exact_by_fields = kept_exact;
  writable = writable;
}

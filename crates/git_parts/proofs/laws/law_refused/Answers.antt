-- Each law is a lemma.
use Rattle.git_parts.proofs.Refusing.OneLemmas.{one_refusal}
use Rattle.git_refusals.proofs.Refusing.UnspelledLemmas.{refused_names, refused_unspelled}
use Rattle.git_parts.proofs.Refusing.WithinLemmas.{refused_within}
use Rattle.git_parts.proofs.laws.law_refused.Goals as goal

pub returns-clause-one : goal.returns-clause-one
returns-clause-one c = one_refusal

pub returns-clause-flaw : goal.returns-clause-flaw
returns-clause-flaw c = refused_names

pub returns-clause-unspelled : goal.returns-clause-unspelled
returns-clause-unspelled c = refused_unspelled

pub returns-clause-within : goal.returns-clause-within
returns-clause-within c = refused_within

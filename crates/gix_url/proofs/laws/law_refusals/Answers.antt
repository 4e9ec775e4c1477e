-- The laws are lemmas.
use Rattle.gix_url.proofs.Unique.ReaderLemmas.{exclusive}
use Rattle.git_syntax.proofs.Errors.RefusalLemmas.{flawless}
use Rattle.git_parts.proofs.Refusing.OneLemmas.{one_refusal}
use Rattle.git_refusals.proofs.Refusing.UnspelledLemmas.{refused_names, refused_unspelled}
use Rattle.git_parts.proofs.Refusing.WithinLemmas.{refused_within}
use Rattle.git_laws.proofs.Errors.FormDecisions.{decided}
use Rattle.gix_url.proofs.laws.law_refusals.Goals as goal

pub returns : goal.returns
returns c = record { exclusive = exclusive; refusal = refused_unspelled; one = one_refusal; flaw = refused_names; within = refused_within; flawless = flawless; decided = decided }

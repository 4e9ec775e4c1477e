-- A text and a fault exclude each other, and a fault is returned as it is;
-- a settled location has a text, which spells it again.
use Rattle.std.proofs.Common.{inr, ap, refl, sym, ◌∙◌, Err}
use Rattle.gix_url.specs.declared.error.Error.TheVariants.{Unwritable}
use Rattle.git_location.proofs.Writing.PieceLemmas.{same_fault}
use Rattle.gix_url.proofs.Writing.OwnedLemmas.{written_again}
use Rattle.git_laws.proofs.Writing.RereadLemmas.{settled_has_text}
use Rattle.gix_url.proofs.location.Url.text_of.Goals as goal

pub returns-in-Ok-clause-fault : goal.returns-in-Ok-clause-fault
returns-in-Ok-clause-fault c = λ f none. let both = c.in-Ok.ensures ∙ none in cc

pub returns-in-Err-clause-fault : goal.returns-in-Err-clause-fault
returns-in-Err-clause-fault c = λ f none. ap (λ g. Err (Unwritable g)) (same_fault _ c.in-Err.fault f c.in-Err.ensures none)

pub returns-in-Err-clause-refused : goal.returns-in-Err-clause-refused
returns-in-Err-clause-refused c = inr (c.in-Err.fault, refl, sym c.in-Err.ensures)

pub returns-in-Ok-clause-settled : goal.returns-in-Ok-clause-settled
returns-in-Ok-clause-settled c = written_again c.args.url.now _ c.collect_in.result c.law_borrowed_value.ensures.value c.in-Ok.ensures c.collect_in.ensures.text c.collect_in.ensures.memory

pub returns-in-Err-clause-settled : goal.returns-in-Err-clause-settled
returns-in-Err-clause-settled c = λ h. absurd (settled_has_text c.args.url.now c.in-Err.fault c.law_borrowed_value.ensures.value h c.in-Err.ensures)

-- The first colon of the text ends the name, and another one follows it.
use Rattle.std.proofs.Common.{◌∙◌, sym}
use Rattle.std.proofs.lemmas.Bool.{false≢true}
use Rattle.git_reads.proofs.Reading.TransportLemmas.{helper_decided, helper_single}
use Rattle.git_reads.proofs.transport.names_helper.Goals as goal

pub returns-else-is_empty : goal.returns-else-is_empty
returns-else-is_empty c = helper_decided c.args.text.now c.in-Some.name.now c.in-Some.address.now c.is_helper_name.result c.in-Some.ensures.0 c.in-Some.ensures.1 (sym c.if-starts_with_byte.ensures) (sym c.if-is_empty.ensures) c.is_helper_name.ensures

pub returns-else-starts_with_byte : goal.returns-else-starts_with_byte
returns-else-starts_with_byte c =
    let none = helper_single c.args.text.now c.in-Some.name.now c.in-Some.address.now c.in-Some.ensures.0 c.in-Some.ensures.1 (sym c.if-starts_with_byte.ensures) in
    (λ h. absurd (false≢true (sym c.if-starts_with_byte.false ∙ h)), λ h. absurd (none h))

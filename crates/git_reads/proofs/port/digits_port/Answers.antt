-- Digits are text, and std reads them as a number if there is one of 16 bits.
use Rattle.std.proofs.Common.{◌∙◌, sym}
use Rattle.git_syntax.proofs.Parsing.HostLemmas.{digits_utf8}
use Rattle.git_reads.proofs.Texts.PortLemmas.{port_parsed}
use Rattle.git_reads.proofs.port.digits_port.Goals as goal

pub as_text-requires : goal.as_text-requires
as_text-requires c = digits_utf8 c.args.digits.now (sym c.if-not-are_digits.ensures)

pub returns : goal.returns
returns c =
    let parsed = rw c.as_text.ensures at c.parse.ensures.value.0 in
    c.ok.ensures.value ∙ port_parsed c.args.digits.now c.parse.result (sym c.if-not-are_digits.ensures) parsed

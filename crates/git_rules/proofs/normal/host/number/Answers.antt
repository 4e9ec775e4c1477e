-- Digits are text, and std reads them as a number if there is one of 16 bits.
use Rattle.std.proofs.Common.{sym}
use Rattle.git_syntax.specs.Hosts.HostSyntax.{http_hosts}
use Rattle.git_syntax.proofs.Parsing.HostLemmas.{digits_utf8, not_parsed}
use Rattle.git_rules.proofs.normal.host.number.Goals as goal

pub as_text-requires : goal.as_text-requires
as_text-requires c = digits_utf8 c.args.digits.now (sym c.if-not-are_digits.ensures)

pub returns-in_default : goal.returns-in_default
returns-in_default c =
    let fails = rw c.as_text.ensures at c.in_default.ensures.value.0 in
    not_parsed http_hosts c.args.digits.now (sym c.if-not-are_digits.ensures) fails

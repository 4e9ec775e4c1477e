-- The bracket in front of a host is closed, and a colon with something after it marks a port.
use Rattle.git_syntax.proofs.Parsing.ClassifierLemmas.{nil_tested}
use Rattle.git_syntax.proofs.Parsing.HostLemmas.{some_tested}
use Rattle.git_parts.proofs.Cutting.PartLemmas.{never_open, brackets_alone, brackets_colon, brackets_port}
use Rattle.git_parts.proofs.parts.authority.digits_after_brackets.Goals as goal

pub returns-in_err-rest : goal.returns-in_err-rest
returns-in_err-rest c = never_open c.args.suffix.now c.requires c.in_err-rest.ensures

pub returns-in_err-digits : goal.returns-in_err-digits
returns-in_err-digits c =
    rw c.from_residual-in_err-digits.ensures (brackets_alone c.args.suffix.now c.in_ok-rest.field-0-0.now c.in_ok-rest.rest.now c.requires c.in_ok-rest.ensures.0 c.in_ok-rest.ensures.1 c.in_err-digits.ensures)

pub returns-then-is_empty : goal.returns-then-is_empty
returns-then-is_empty c =
    brackets_colon c.args.suffix.now c.in_ok-rest.field-0-0.now c.in_ok-rest.rest.now c.in_ok-digits.digits.now c.in_ok-rest.ensures.0 c.in_ok-rest.ensures.1 c.in_ok-digits.ensures (nil_tested c.in_ok-digits.digits.now c.if-is_empty.ensures)

pub returns : goal.returns
returns c =
    brackets_port c.args.suffix.now c.in_ok-rest.field-0-0.now c.in_ok-rest.rest.now c.in_ok-digits.digits.now c.in_ok-rest.ensures.0 c.in_ok-rest.ensures.1 c.in_ok-digits.ensures (some_tested c.in_ok-digits.digits.now c.if-is_empty.ensures)

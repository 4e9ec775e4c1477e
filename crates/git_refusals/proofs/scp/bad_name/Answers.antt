-- The brackets of a host.
use Rattle.git_refusals.proofs.Refusing.ScpLemmas.{unclosed_found, brackets_read, after_bracket_found}
use Rattle.git_refusals.proofs.scp.bad_name.Goals as goal

pub returns-in_default-cut : goal.returns-in_default-cut
returns-in_default-cut c = unclosed_found c.args.host.now c.in-Some.suffix.now c.in_default-cut.ensures c.in-Some.ensures

pub returns-then-is_empty : goal.returns-then-is_empty
returns-then-is_empty c =
    brackets_read c.args.host.now c.in-Some.suffix.now c.in-Some-cut.inner.now c.in-Some-cut.rest.now c.requires.text c.in-Some.ensures c.in-Some-cut.ensures.0 c.in-Some-cut.ensures.1 c.if-is_empty.ensures

pub returns-in-Some : goal.returns-in-Some
returns-in-Some c =
    after_bracket_found c.args.host.now c.in-Some.suffix.now c.in-Some-cut.inner.now c.in-Some-cut.rest.now c.in-Some.ensures c.in-Some-cut.ensures.0 c.in-Some-cut.ensures.1 c.if-is_empty.ensures

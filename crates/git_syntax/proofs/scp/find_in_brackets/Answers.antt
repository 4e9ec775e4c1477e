-- The bracket that closes is the last byte of the host.
use Rattle.std.proofs.Common.{refl}
use Rattle.std.proofs.lemmas.Bool.{false≢true}
use Rattle.git_syntax.proofs.Parsing.ScpLemmas.{open_found, rest_found, literal_found, inner_kept}
use Rattle.git_syntax.proofs.scp.find_in_brackets.Goals as goal

pub returns-in_default-clause-read : goal.returns-in_default-clause-read
returns-in_default-clause-read c = open_found c.args.suffix.now c.in_default.ensures

pub returns-then-not-is_empty-clause-read : goal.returns-then-not-is_empty-clause-read
returns-then-not-is_empty-clause-read c =
    rest_found c.args.suffix.now c.in-Some.inner.now c.in-Some.rest.now c.requires.colons c.in-Some.ensures.0 c.in-Some.ensures.1 c.if-not-is_empty.ensures

pub returns-then-is_literal-clause-read : goal.returns-then-is_literal-clause-read
returns-then-is_literal-clause-read c =
    literal_found c.args.suffix.now c.in-Some.inner.now c.in-Some.rest.now c.in-Some.ensures.0 c.in-Some.ensures.1 c.if-not-is_empty.ensures (c.if-is_literal.ensures.0 refl)

pub returns-else-is_literal-clause-read : goal.returns-else-is_literal-clause-read
returns-else-is_literal-clause-read c =
    inner_kept c.args.suffix.now c.in-Some.inner.now c.in-Some.rest.now c.requires.text c.in-Some.ensures.0 c.in-Some.ensures.1 c.if-not-is_empty.ensures (λ h. false≢true (c.if-is_literal.ensures.1 h))

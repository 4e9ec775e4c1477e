-- An address holds no `%`, so the first `%` begins a zone.
use Rattle.std.proofs.Common.{refl}
use Rattle.std.proofs.lemmas.Bool.{false≢true}
use Rattle.git_syntax.proofs.Parsing.HostLemmas.{literal_address, literal_alone, literal_parts, literal_zoned}
use Rattle.git_syntax.proofs.host.bytes.is_literal.Goals as goal

pub returns-then-is_address : goal.returns-then-is_address
returns-then-is_address c = (
  λ t. literal_zoned c.args.text.now c.in-Some.address.now c.in-Some.escaped.now c.in-Some.ensures.1 (c.if-is_address.ensures.0 refl) (c.is_escaped_zone.ensures.0 t),
  λ h. c.is_escaped_zone.ensures.1 (literal_parts c.args.text.now c.in-Some.address.now c.in-Some.escaped.now c.in-Some.ensures.0 c.in-Some.ensures.1 h).1,
)

pub returns-else-is_address : goal.returns-else-is_address
returns-else-is_address c = (
  λ t. absurd (false≢true (c.if-is_address.ensures.1 (c.is_address.ensures.0 t))),
  λ h. c.is_address.ensures.1 (literal_parts c.args.text.now c.in-Some.address.now c.in-Some.escaped.now c.in-Some.ensures.0 c.in-Some.ensures.1 h).0,
)

pub returns-in-None : goal.returns-in-None
returns-in-None c = (
  λ t. literal_alone c.args.text.now (c.is_address-in-None.ensures.0 t),
  λ h. c.is_address-in-None.ensures.1 (literal_address c.args.text.now c.in-None.ensures h),
)

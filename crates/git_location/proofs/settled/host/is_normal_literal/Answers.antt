-- The first `%` parts a literal into address and zone; without one all of it is the address.
use Rattle.git_location.proofs.SettledClass.SettledLemmas.{second_decides, first_fails, literal_without_zone, literal_with_zone}
use Rattle.git_location.proofs.settled.host.is_normal_literal.Goals as goal

pub returns-in-None : goal.returns-in-None
returns-in-None c =
    let alone = literal_without_zone c.args.text.now c.in-None.ensures in
    (λ yes. alone.0 (c.is_normal_address.ensures.0 yes), λ l. c.is_normal_address.ensures.1 (alone.1 l))

pub returns-then-is_normal_address : goal.returns-then-is_normal_address
returns-then-is_normal_address c =
    second_decides c.is_escaped_zone.result (c.is_normal_address-in-Some.ensures.0 c.if-is_normal_address.true) c.is_escaped_zone.ensures (literal_with_zone c.args.text.now c.in-Some.address.now c.in-Some.escaped.now c.in-Some.ensures.0 c.in-Some.ensures.1)

pub returns-else-is_normal_address : goal.returns-else-is_normal_address
returns-else-is_normal_address c =
    first_fails c.is_normal_address-in-Some.result c.if-is_normal_address.false c.is_normal_address-in-Some.ensures (literal_with_zone c.args.text.now c.in-Some.address.now c.in-Some.escaped.now c.in-Some.ensures.0 c.in-Some.ensures.1)

-- The host that ends with a colon is the location's, and it has no zone.
use Rattle.std.proofs.Common.{rules}
use Rattle.git_class.proofs.web_conditions.unmet_by_host.Goals as goal

pub returns-then-ends_with_byte : goal.returns-then-ends_with_byte
returns-then-ends_with_byte c =
    let (front, ends) = c.ends_with_byte.ensures.0 c.if-ends_with_byte.true in
    ((c.in-Some.host.now, search rules, (front, search rules)), search rules)

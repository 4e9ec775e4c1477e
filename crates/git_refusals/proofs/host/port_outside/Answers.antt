-- Digits are text, and std reads them as a number if there is one of 16 bits.
use Rattle.std.proofs.Common.{refl, arith}
use Rattle.git_syntax.proofs.Parsing.HostLemmas.{digits_utf8, some_tested}
use Rattle.git_refusals.specs.Reasons.{PortOutside}
use Rattle.git_refusals.proofs.Refusing.HostLemmas.{too_large}
use Rattle.git_refusals.proofs.host.port_outside.Goals as goal

pub as_text-requires : goal.as_text-requires
as_text-requires c = digits_utf8 c.args.digits.now c.requires

pub returns-in_default : goal.returns-in_default
returns-in_default c =
    let some = some_tested c.args.digits.now c.if-is_empty.ensures in
    let fails = rw c.as_text.ensures at c.in_default.ensures.value.0 in
    record {
      found = PortOutside.too_large (some, c.requires) (too_large c.args.digits.now c.requires some fails) (record { named = refl; start = refl; size = refl });
      within = omega arith;
    }

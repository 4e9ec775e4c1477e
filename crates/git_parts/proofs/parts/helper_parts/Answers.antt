-- The name is at the front, and the address is after its two colons.
use Rattle.std.proofs.Common.{◌+◌, length, Some, ap}
use Rattle.git_parts.specs.declared.parts.Parts.{Parts}
use Rattle.git_parts.specs.Parts.{HasParts, span}
use Rattle.git_parts.proofs.parts.helper_parts.Goals as goal

pub returns : goal.returns
returns c =
    HasParts.remote_helper c.args.name.now c.args.address.now c.requires
    (ap {A = Parts} {B = Parts} (λ parts. record parts {
      scheme = Some (span 0 (length c.args.name.now));
      path = span (length c.args.name.now + 2) (length c.args.address.now);
    }) c.whole.ensures)

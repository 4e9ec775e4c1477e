-- A user, brackets around an address, and a path are at the places of the form.
use Rattle.std.proofs.Common.{◌+◌, length, Some, ap}
use Rattle.git_parts.specs.declared.parts.Parts.{Parts}
use Rattle.git_parts.specs.Parts.{HasParts, span}
use Rattle.git_parts.proofs.parts.addressed_parts.Goals as goal

pub returns : goal.returns
returns c =
    HasParts.addressed c.args.user.now c.args.address.now c.args.path.now c.requires
    (ap {A = Parts} {B = Parts} (λ parts. record parts {
      user = Some (span 0 (length c.args.user.now));
      host = Some (span (length c.args.user.now + 1) (length c.args.address.now + 2));
      path = span (length c.args.user.now + length c.args.address.now + 4) (length c.args.path.now);
    }) c.whole.ensures)

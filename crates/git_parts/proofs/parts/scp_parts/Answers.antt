-- A front and a path are around the colon of the form.
use Rattle.std.proofs.Common.{◌+◌, length, ap}
use Rattle.git_parts.specs.declared.parts.Parts.{Parts}
use Rattle.git_parts.specs.Parts.{HasParts, span}
use Rattle.git_parts.proofs.parts.scp_parts.Goals as goal

pub returns : goal.returns
returns c =
    HasParts.scp c.args.front.now c.args.path.now c.front_parts-user.result.0 c.front_parts-user.result.1 c.requires.form c.requires.not_addressed c.front_parts-user.ensures
    (ap {A = Parts} {B = Parts} (λ parts. record parts {
      user = c.front_parts-user.result.0;
      host = c.front_parts-user.result.1;
      path = span (length c.args.front.now + 1) (length c.args.path.now);
    }) c.whole.ensures)

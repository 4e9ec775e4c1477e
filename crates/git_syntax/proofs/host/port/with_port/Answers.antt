-- A port follows the host.
use Rattle.std.proofs.Common.{refl}
use Rattle.git_syntax.specs.Internal.HostPieces.Follows.{number}
use Rattle.git_syntax.proofs.host.port.with_port.Goals as goal

pub returns : goal.returns
returns c = number c.args.digits.now c.in_ok-port.port c.in_ok-port.ensures refl refl refl

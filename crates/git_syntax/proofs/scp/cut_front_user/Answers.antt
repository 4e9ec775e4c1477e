-- The user ends at the last `@`.
use Rattle.std.proofs.Common.{refl}
use Rattle.git_syntax.specs.Grammar.ScpUser.{with_user}
use Rattle.git_syntax.proofs.scp.cut_front_user.Goals as goal

pub returns-in-Some : goal.returns-in-Some
returns-in-Some c = record { split = with_user c.in-Some.user.now c.in-Some.ensures.1 refl; no_at = c.in-Some.ensures.0 }

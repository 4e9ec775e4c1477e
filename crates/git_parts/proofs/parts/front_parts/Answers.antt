-- A user and a host are the texts around the last `@`.
use Rattle.std.proofs.Common.{refl}
use Rattle.git_parts.specs.Parts.{FrontSpans}
use Rattle.git_parts.proofs.parts.front_parts.Goals as goal

pub returns-in-Some : goal.returns-in-Some
returns-in-Some c = FrontSpans.with_user c.in-Some.user.now c.in-Some.host.now c.in-Some.ensures.0 c.in-Some.ensures.1 refl refl

-- A user and a password are the texts around the first colon.
use Rattle.std.proofs.Common.{refl}
use Rattle.git_parts.specs.Parts.{UserSpans}
use Rattle.git_parts.proofs.parts.authority.user_parts.Goals as goal

pub returns-in-Some : goal.returns-in-Some
returns-in-Some c = UserSpans.with_password c.in-Some.user.now c.in-Some.password.now c.in-Some.ensures.0 c.in-Some.ensures.1 refl refl

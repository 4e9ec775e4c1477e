-- A piece with a bracket in front has its port after the brackets, any other after the host.
use Rattle.std.proofs.Common.{sym, subst, MatchOption}
use Rattle.git_parts.specs.Internal.Pieces.{IsHostAlone, HasPort}
use Rattle.git_parts.proofs.parts.authority.port_digits.Goals as goal

pub returns-in-Some : goal.returns-in-Some
returns-in-Some c =
    subst (λ piece. MatchOption c.digits_after_brackets.result (IsHostAlone piece) (λ digits. HasPort piece digits.now)) (sym c.in-Some.ensures) c.digits_after_brackets.ensures

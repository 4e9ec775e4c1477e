-- The host after the last `@`, or the whole front.
use Rattle.std.proofs.Common.{Some, refl, sym, subst, lit<, IsUtf8}
use Rattle.git_syntax.specs.Grammar.ScpUser.{with_user}
use Rattle.git_syntax.specs.Bytes.{at_sign}
use Rattle.git_syntax.proofs.Texts.EscapeLemmas.{utf8_parts}
use Rattle.git_syntax.proofs.Parsing.ScpLemmas.{colons_inside_host}
use Rattle.git_refusals.specs.Internal.Readable.{Checks, IsScpFront}
use Rattle.git_refusals.specs.Reasons.{BadFront}
use Rattle.git_refusals.proofs.Refusing.ScpLemmas.{front_alone, front_with_user, front_flawed}
use Rattle.git_refusals.proofs.scp.bad_front.Goals as goal

pub returns-in_default : goal.returns-in_default
returns-in_default c = front_alone c.args.front.now c.bad_host.result c.in_default.ensures c.bad_host.ensures

pub bad_host-requires-2-clause-text : goal.bad_host-requires-2-clause-text
bad_host-requires-2-clause-text c =
    (utf8_parts c.in-Some.user.now c.in-Some.host.now at_sign (subst IsUtf8 c.in-Some.ensures.1 c.requires.text) (lit< tt)).1

pub bad_host-requires-2-clause-colons : goal.bad_host-requires-2-clause-colons
bad_host-requires-2-clause-colons c =
    colons_inside_host c.args.front.now (Some c.in-Some.user.now) c.in-Some.host.now (with_user c.in-Some.user.now c.in-Some.ensures.1 refl) c.requires.colons

pub returns-in_err-place : goal.returns-in_err-place
returns-in_err-place c =
    subst (λ r. Checks c.args.front.now (BadFront c.args.front.now) (IsScpFront c.args.front.now) r) (sym c.from_residual.ensures)
    (front_with_user c.args.front.now c.in-Some.user.now c.in-Some.host.now c.in-Some.ensures.1 c.in_err-place.ensures)

pub returns : goal.returns
returns c = front_flawed c.args.front.now c.in-Some.user.now c.in-Some.host.now c.in_ok-place.place c.in-Some.ensures.0 c.in-Some.ensures.1 c.in_ok-place.ensures

-- User information, and a host and a port, are the texts around the last `@`.
use Rattle.std.proofs.Common.{refl}
use Rattle.git_parts.specs.Parts.{AuthoritySpans}
use Rattle.git_parts.proofs.Cutting.PartLemmas.{authority_names, after_names}
use Rattle.git_parts.proofs.parts.authority.authority_parts.Goals as goal

pub host_parts-host-requires-clause-named : goal.host_parts-host-requires-clause-named
host_parts-host-requires-clause-named c = authority_names c.args.authority.now c.in-None.ensures c.requires.held

pub host_parts-host-requires-in-Some-clause-named : goal.host_parts-host-requires-in-Some-clause-named
host_parts-host-requires-in-Some-clause-named c =
    after_names c.args.authority.now c.in-Some.information.now c.in-Some.piece.now c.in-Some.ensures.0 c.in-Some.ensures.1 c.requires.held

pub returns-in-None : goal.returns-in-None
returns-in-None c = AuthoritySpans.alone c.in-None.ensures refl refl c.host_parts-host.ensures

pub returns-in-Some : goal.returns-in-Some
returns-in-Some c =
    AuthoritySpans.with_user c.in-Some.information.now c.in-Some.piece.now c.in-Some.ensures.0 c.in-Some.ensures.1 c.user_parts-user.ensures c.host_parts-host-in-Some.ensures

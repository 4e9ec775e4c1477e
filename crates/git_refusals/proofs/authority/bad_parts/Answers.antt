-- User information, and a host and a port, are the texts around the last `@`.
use Rattle.git_syntax.proofs.Parsing.ClassifierLemmas.{nil_tested}
use Rattle.git_syntax.proofs.Parsing.HostLemmas.{some_tested}
use Rattle.git_refusals.proofs.Refusing.AuthorityLemmas.{after_utf8, after_held, user_found, host_found, no_host_found}
use Rattle.git_refusals.proofs.authority.bad_parts.Goals as goal

pub returns-in-Some-bad_user : goal.returns-in-Some-bad_user
returns-in-Some-bad_user c =
    user_found _ c.args.needed c.args.authority.now c.in-Some.information.now c.in-Some.piece.now c.in-Some-bad_user.place c.in-Some.ensures.0 c.in-Some.ensures.1 c.in-Some-bad_user.ensures

pub bad_host-requires : goal.bad_host-requires
bad_host-requires c = after_utf8 c.args.authority.now c.in-Some.information.now c.in-Some.piece.now c.in-Some.ensures.1 c.requires.text

pub returns-in-Some-bad_host : goal.returns-in-Some-bad_host
returns-in-Some-bad_host c =
    host_found _ c.args.needed c.args.authority.now c.in-Some.information.now c.in-Some.piece.now c.in-Some-bad_host.place c.in-Some.ensures.0 c.in-Some.ensures.1 c.in_default-bad_user.ensures.found c.in-Some-bad_host.ensures

pub returns-then-is_empty : goal.returns-then-is_empty
returns-then-is_empty c =
    no_host_found _ c.args.needed c.args.authority.now c.in-Some.information.now c.in-Some.piece.now c.in-Some.ensures.0 c.in-Some.ensures.1 c.in_default-bad_user.ensures.found (nil_tested c.in-Some.piece.now c.if-is_empty.ensures)

pub returns : goal.returns
returns c = record {
  found =
      after_held _ c.args.needed c.args.authority.now c.in-Some.information.now c.in-Some.piece.now c.requires.clean c.in-Some.ensures.0 c.in-Some.ensures.1 c.in_default-bad_user.ensures.found c.in_default-bad_host.ensures.found (some_tested c.in-Some.piece.now c.if-is_empty.ensures);
  within = tt;
}

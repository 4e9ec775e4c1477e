-- The front of a text with a path.
use Rattle.std.proofs.Common.{None, refl}
use Rattle.git_syntax.specs.Grammar.ScpUser.{host_alone}
use Rattle.git_syntax.proofs.Parsing.ScpLemmas.{colons_inside_front, scp_host_utf8}
use Rattle.git_refusals.proofs.Refusing.ScpLemmas.{scp_checked}
use Rattle.git_refusals.proofs.scp.bad_scp.Goals as goal

pub bad_front-requires-clause-text : goal.bad_front-requires-clause-text
bad_front-requires-clause-text c =
    scp_host_utf8 c.args.text.now c.args.front.now c.args.path.now None c.args.front.now c.requires.form c.in_default.ensures.found (host_alone refl refl)

pub bad_front-requires-clause-colons : goal.bad_front-requires-clause-colons
bad_front-requires-clause-colons c = colons_inside_front c.args.text.now c.args.front.now c.requires.form.form

pub returns : goal.returns
returns c =
    scp_checked c.args.text.now c.args.front.now c.args.path.now c.bad_front.result c.requires c.in_default.ensures.found c.if-is_empty.ensures c.bad_front.ensures

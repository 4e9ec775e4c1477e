-- The name of a host without white space and without a backslash.
use Rattle.std.proofs.Common.{subst}
use Rattle.git_syntax.specs.Bytes.{LacksWhiteSpace}
use Rattle.git_syntax.proofs.Parsing.HostLemmas.{some_tested}
use Rattle.git_refusals.proofs.Refusing.ScpLemmas.{name_checked}
use Rattle.git_refusals.proofs.scp.bad_host.Goals as goal

pub returns : goal.returns
returns c =
    name_checked c.args.host.now c.bad_name.result c.requires.no_at (subst LacksWhiteSpace c.as_text.ensures c.in_default.ensures.found) c.in_default-backslash.ensures.found (some_tested c.args.host.now c.if-is_empty.ensures) c.bad_name.ensures

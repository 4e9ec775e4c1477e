-- The text before the first `%` is free of it.
use Rattle.git_syntax.proofs.Parsing.HostLemmas.{lowercase_address_cut, lowercase_address_whole}
use Rattle.git_syntax.proofs.host.build.address_len.Goals as goal

pub returns-in-Some-clause-cut : goal.returns-in-Some-clause-cut
returns-in-Some-clause-cut c =
    lowercase_address_cut c.args.literal.now c.in-Some.address.now c.in-Some.field-0-1.now c.in-Some.ensures.0 c.in-Some.ensures.1

pub returns-in-None-clause-cut : goal.returns-in-None-clause-cut
returns-in-None-clause-cut c = lowercase_address_whole c.args.literal.now c.in-None.ensures

-- The text after the scheme differs, and has no user information.
use Rattle.git_rules.proofs.Matched.OtherHostLemmas.{names_other}
use Rattle.git_rules.proofs.pattern.other_host.names_other_host.Goals as goal

pub returns-in-Some : goal.returns-in-Some
returns-in-Some c = λ yes.
    let parts = c.is_other.ensures yes in
    names_other c.args.url.now c.in-Some.rest.now c.args.host.now c.in-Some.ensures parts.1 parts.0

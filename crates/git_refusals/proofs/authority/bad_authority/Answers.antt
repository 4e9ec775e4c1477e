-- An authority without a backslash is checked by its parts.
use Rattle.git_refusals.proofs.Refusing.AuthorityLemmas.{parts_checked}
use Rattle.git_refusals.proofs.authority.bad_authority.Goals as goal

pub returns-in-None : goal.returns-in-None
returns-in-None c = parts_checked _ c.args.needed c.args.authority.now _ c.in-None.ensures.found c.bad_parts.ensures

-- A user and a password are the texts around the first colon, and each is checked alone.
use Rattle.git_refusals.proofs.Refusing.AuthorityLemmas.{user_alone, password_found, user_checked}
use Rattle.git_refusals.proofs.authority.bad_user.Goals as goal

pub returns-in_default : goal.returns-in_default
returns-in_default c = user_alone c.args.information.now _ c.in_default.ensures c.undecodable.ensures

pub returns-in-Some-undecodable : goal.returns-in-Some-undecodable
returns-in-Some-undecodable c =
    password_found c.args.information.now c.in-Some.user.now c.in-Some.password.now c.in-Some-undecodable.place c.in-Some.ensures.0 c.in-Some.ensures.1 c.in-Some-undecodable.ensures

pub returns-in-None : goal.returns-in-None
returns-in-None c =
    user_checked c.args.information.now c.in-Some.user.now c.in-Some.password.now _ c.in-Some.ensures.0 c.in-Some.ensures.1 c.in-None.ensures.found c.undecodable-in-None.ensures

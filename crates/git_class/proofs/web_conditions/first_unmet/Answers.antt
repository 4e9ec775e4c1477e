-- The parts before the one that is tested are unambiguous, so their conditions are met.
use Rattle.std.proofs.Common.{refl}
use Rattle.git_class.proofs.Classes.ConditionLemmas.{host_met, password_met, settled_met, user_met}
use Rattle.git_class.proofs.web_conditions.first_unmet.Goals as goal

pub unmet_by_user-requires-clause-before : goal.unmet_by_user-requires-clause-before
unmet_by_user-requires-clause-before c =
    let v = c.args.url.now in
    host_met v (settled_met v (c.if-not-is_settled.ensures.decided.0 refl)) (c.if-not-has_unambiguous_host.ensures.0 refl)

pub unmet_by_password-requires-clause-before : goal.unmet_by_password-requires-clause-before
unmet_by_password-requires-clause-before c =
    let v = c.args.url.now in
    let user = host_met v (settled_met v (c.if-not-is_settled.ensures.decided.0 refl)) (c.if-not-has_unambiguous_host.ensures.0 refl) in
    user_met v user (c.if-not-has_unambiguous_user.ensures.0 refl)

pub unmet_by_path-requires-clause-before : goal.unmet_by_path-requires-clause-before
unmet_by_path-requires-clause-before c =
    let v = c.args.url.now in
    let user = host_met v (settled_met v (c.if-not-is_settled.ensures.decided.0 refl)) (c.if-not-has_unambiguous_host.ensures.0 refl) in
    let password = user_met v user (c.if-not-has_unambiguous_user.ensures.0 refl) in
    password_met v password (c.if-not-has_unambiguous_password.ensures.0 refl)

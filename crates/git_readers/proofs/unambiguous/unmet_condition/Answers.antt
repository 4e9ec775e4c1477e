-- A location of the class meets the condition that this one doesn't.
use Rattle.std.proofs.lemmas.Bool.{both_ways}
use Rattle.git_readers.specs.declared.unambiguous.Condition.TheVariants as condition
use Rattle.git_readers.proofs.ConditionLemmas.{unmet}
use Rattle.git_readers.proofs.unambiguous.unmet_condition.Goals as goal

pub returns-then-not-agrees_with_git-clause-met : goal.returns-then-not-agrees_with_git-clause-met
returns-then-not-agrees_with_git-clause-met c =
    unmet condition.Git c.args.url.now (λ met. both_ways _ c.if-not-agrees_with_git.true (c.agrees_with_git.ensures.1 met))

pub returns-then-not-is_unescaped-clause-met : goal.returns-then-not-is_unescaped-clause-met
returns-then-not-is_unescaped-clause-met c =
    unmet condition.Escapes c.args.url.now (λ met. both_ways _ c.if-not-is_unescaped.true (c.is_unescaped.ensures.1 met))

pub returns-then-not-has_plain_host-clause-met : goal.returns-then-not-has_plain_host-clause-met
returns-then-not-has_plain_host-clause-met c =
    unmet condition.Host c.args.url.now (λ met. both_ways _ c.if-not-has_plain_host.true (c.has_plain_host.ensures.1 met))

pub returns-then-not-has_plain_user-clause-met : goal.returns-then-not-has_plain_user-clause-met
returns-then-not-has_plain_user-clause-met c =
    unmet condition.User c.args.url.now (λ met. both_ways _ c.if-not-has_plain_user.true (c.has_plain_user.ensures.1 met))

pub returns-then-not-has_plain_password-clause-met : goal.returns-then-not-has_plain_password-clause-met
returns-then-not-has_plain_password-clause-met c =
    unmet condition.Password c.args.url.now (λ met. both_ways _ c.if-not-has_plain_password.true (c.has_plain_password.ensures.1 met))

pub returns-then-not-has_real_port-clause-met : goal.returns-then-not-has_real_port-clause-met
returns-then-not-has_real_port-clause-met c =
    unmet condition.Port c.args.url.now (λ met. both_ways _ c.if-not-has_real_port.true (c.has_real_port.ensures.1 met))

pub returns-then-not-has_plain_bytes-clause-met : goal.returns-then-not-has_plain_bytes-clause-met
returns-then-not-has_plain_bytes-clause-met c =
    unmet condition.PathBytes c.args.url.now (λ met. both_ways _ c.if-not-has_plain_bytes.true (c.has_plain_bytes.ensures.1 met))

pub returns-then-not-begins_plainly-clause-met : goal.returns-then-not-begins_plainly-clause-met
returns-then-not-begins_plainly-clause-met c =
    unmet condition.PathStart c.args.url.now (λ met. both_ways _ c.if-not-begins_plainly.true (c.begins_plainly.ensures.1 met))

pub returns-then-not-lacks_dots-clause-met : goal.returns-then-not-lacks_dots-clause-met
returns-then-not-lacks_dots-clause-met c =
    unmet condition.DotSegment c.args.url.now (λ met. both_ways _ c.if-not-lacks_dots.true (c.lacks_dots.ensures.1 met))

pub returns-then-not-has_plain_scp_host-clause-met : goal.returns-then-not-has_plain_scp_host-clause-met
returns-then-not-has_plain_scp_host-clause-met c =
    unmet condition.ScpHost c.args.url.now (λ met. both_ways _ c.if-not-has_plain_scp_host.true (c.has_plain_scp_host.ensures.1 met))

pub returns-then-not-has_scp_slash-clause-met : goal.returns-then-not-has_scp_slash-clause-met
returns-then-not-has_scp_slash-clause-met c =
    unmet condition.ScpPath c.args.url.now (λ met. both_ways _ c.if-not-has_scp_slash.true (c.has_scp_slash.ensures.1 met))

-- The first `@` ends a user and a password; without one there is a host alone.
use Rattle.std.proofs.Common.{◌&&◌, ◌∙◌, ap, not, subst, sym}
use Rattle.git_modules.specs.SubmoduleInternal.{TestsAuthority}
use Rattle.git_modules.proofs.Urls.HostLemmas.{alone_tells, cut_tells}
use Rattle.git_modules.proofs.submodules.url.is_authority_taken.Goals as goal

pub returns-then-is_host_taken : goal.returns-then-is_host_taken
returns-then-is_host_taken c =
    subst (TestsAuthority c.args.authority.now) (ap (λ x. x && not c.information_has_feed-has_feed.result) c.if-is_host_taken.true)
    (cut_tells c.args.authority.now c.in-Some.information.now c.in-Some.named.now c.information_has_feed-has_feed.result c.is_host_taken.result c.in-Some.ensures.0 c.in-Some.ensures.1 c.information_has_feed-has_feed.ensures c.is_host_taken.ensures)

pub returns-else-is_host_taken : goal.returns-else-is_host_taken
returns-else-is_host_taken c =
    subst (TestsAuthority c.args.authority.now) (ap (λ x. x && not c.information_has_feed-has_feed.result) c.if-is_host_taken.false ∙ sym c.if-is_host_taken.false)
    (cut_tells c.args.authority.now c.in-Some.information.now c.in-Some.named.now c.information_has_feed-has_feed.result c.is_host_taken.result c.in-Some.ensures.0 c.in-Some.ensures.1 c.information_has_feed-has_feed.ensures c.is_host_taken.ensures)

pub returns-in-None : goal.returns-in-None
returns-in-None c = alone_tells c.args.authority.now c.is_host_taken-in-None.result c.in-None.ensures c.is_host_taken-in-None.ensures

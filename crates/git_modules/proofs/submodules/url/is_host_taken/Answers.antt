-- A host has bytes if its piece has.
use Rattle.std.proofs.Common.{◌≡◌, ◌==◌, ◌&&◌, ap, arith, length, not, subst, true}
use Rattle.std.proofs.lemmas.Bool.Decides.{nat_tests}
use Rattle.git_modules.specs.SubmoduleInternal.{TestsHost}
use Rattle.git_modules.proofs.Urls.HostLemmas.{host_tells}
use Rattle.git_modules.proofs.submodules.url.is_host_taken.Goals as goal

pub returns-then-not-is_empty : goal.returns-then-not-is_empty
returns-then-not-is_empty c =
    let some : not (length c.args.named.now == 0) ≡ true = grind (arith, nat_tests, c.is_empty.ensures, c.if-not-is_empty.true) in
    subst (TestsHost c.args.named.now) (ap (λ x. x && not c.piece_has_feed-has_feed.result) some) (host_tells c.args.named.now c.piece_has_feed-has_feed.result c.piece_has_feed-has_feed.ensures)

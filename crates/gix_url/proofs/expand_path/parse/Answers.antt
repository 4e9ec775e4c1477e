-- The name and the path below, as they were cut.
use Rattle.std.proofs.Common.{subst}
use Rattle.bstr.specs.BStr.{bstr_bytes}
use Rattle.gix_url.specs.HomeReadings.{HomePath}
use Rattle.gix_url.proofs.Homes.HomeLemmas.{splits_at}
use Rattle.gix_url.proofs.expand_path.parse.Goals as goal

pub returns-in_ok-path_below-in-Some-clause-split : goal.returns-in_ok-path_below-in-Some-clause-split
returns-in_ok-path_below-in-Some-clause-split c =
    let name = c.in-Some.name.now in
    let below = c.in-Some.below.now in
    splits_at (bstr_bytes c.args.path) name below _ _ c.in-Some.ensures.0 (subst (λ p. HomePath p name below) c.as_bytes.ensures c.in-Some.ensures.1)
    c.in_ok-user-in-Some.ensures c.in_ok-path_below-in-Some.ensures

-- The text after `://` is reported up to its first 1,024 bytes.
use Rattle.std.proofs.Common.{refl, arith, length-take}
use Rattle.std.proofs.lemmas.Bool.{false≢true}
use Rattle.git_refusals.specs.Reasons.{TooLong}
use Rattle.git_refusals.proofs.url.too_long.Goals as goal

pub returns-clause-found : goal.returns-clause-found
returns-clause-found c =
    TooLong.long_rest c.if-scheme-gt1024.false (λ fits. false≢true (c.if-fits.ensures.1 fits))
    (record { named = refl; start = refl; size = omega (arith, c.min.ensures, length-take 1024 c.args.rest.now) })

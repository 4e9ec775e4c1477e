-- Short texts fit; of a longer one, whether a path starts in time is the length test.
use Rattle.std.proofs.Common.{◌∙◌, [], length, ap, refl, sym, arith, append-nil}
use Rattle.std.proofs.lemmas.Bool.{le-leb, or_left}
use Rattle.git_syntax.specs.declared.length.Stage.TheVariants.{Slashes}
use Rattle.git_syntax.specs.Internal.LengthChecks.{is_in_time}
use Rattle.git_syntax.proofs.Parsing.LengthLemmas.{fits_tested, long_tested}
use Rattle.git_syntax.proofs.length.fits.Goals as goal

pub returns-then-rest-le-LIMIT : goal.returns-then-rest-le-LIMIT
returns-then-rest-le-LIMIT c =
    let short = le-leb (length c.args.rest.now) 1024 (omega arith) in
    (λ _. (fits_tested c.args.scheme.now c.args.rest.now (omega arith)).0 (or_left _ _ short), λ _. refl)

pub returns : goal.returns
returns c =
    let walked = c.is_in_time.ensures ∙ c.advance_slashes.ensures [] ∙ ap (is_in_time c.is_web_scheme-web.result Slashes) (append-nil c.args.rest.now)
    ∙ ap (λ web. is_in_time web Slashes c.args.rest.now) c.is_web_scheme-web.ensures ∙ sym (long_tested _ c.args.rest.now (omega arith)) in
    let test = fits_tested c.args.scheme.now c.args.rest.now (omega arith) in
    (λ yes. test.0 (sym walked ∙ yes), λ fits. walked ∙ test.1 fits)

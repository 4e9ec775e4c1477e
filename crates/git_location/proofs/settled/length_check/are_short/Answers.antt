-- A scheme that is short enough leaves the rest to decide, and any other doesn't fit.
use Rattle.std.proofs.Common.{◌∙◌, ◌+◌, drop, length, sym, arith}
use Rattle.std.proofs.lemmas.Bool.{leb-true}
use Rattle.git_location.specs.Internal.Pieces.{pieces_text}
use Rattle.git_syntax.proofs.Parsing.LengthLemmas.{fits_tested}
use Rattle.git_location.proofs.settled.length_check.are_short.Goals as goal

pub returns-then-scheme-le-LIMIT : goal.returns-then-scheme-le-LIMIT
returns-then-scheme-le-LIMIT c =
    let suffix = drop (length c.args.scheme.now + 3) (pieces_text c.args.pieces.now) in
    let test = fits_tested c.args.scheme.now suffix (omega arith) in
    (λ yes. test.0 (sym c.is_rest_short.ensures ∙ yes), λ fits. c.is_rest_short.ensures ∙ test.1 fits)

pub returns-else-scheme-le-LIMIT : goal.returns-else-scheme-le-LIMIT
returns-else-scheme-le-LIMIT c = (
  λ yes. let short = leb-true (length c.args.scheme.now) 1024 yes in absurd (omega (arith, short)),
  λ fits. absurd (omega (arith, fits.scheme_length)),
)

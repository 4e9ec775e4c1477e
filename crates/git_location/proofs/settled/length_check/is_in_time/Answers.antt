-- The walk past the whole text, with nothing after it.
use Rattle.std.proofs.Common.{[], ◌∙◌, ap, append-nil}
use Rattle.git_location.specs.Internal.Pieces.{pieces_text}
use Rattle.git_syntax.specs.Internal.LengthChecks.{is_text_in_time}
use Rattle.git_location.proofs.settled.length_check.is_in_time.Goals as goal

pub returns : goal.returns
returns c =
    c.is_in_time.ensures ∙ c.in-Ok.ensures [] ∙ ap (is_text_in_time c.args.walk) (append-nil (pieces_text c.args.pieces.now))

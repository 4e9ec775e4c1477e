use Rattle.std.proofs.Common.{refl}
use Rattle.std.proofs.lemmas.Bool.{false≢true}
use Rattle.git_location.specs.Answers.IsReported.{settled, unsettled}
use Rattle.git_location.specs.Internal.Pieces.{pieces_text}
use Rattle.git_location.proofs.lines.report_written.Goals as goal

pub returns-then-is_settled_as : goal.returns-then-is_settled_as
returns-then-is_settled_as c =
    (_, settled (pieces_text c.args.pieces.now) c.requires ((c.if-is_settled_as.ensures c.requires).0 refl) refl refl, c.in_ok-append_text.ensures)

pub returns : goal.returns
returns c =
    (_, unsettled (pieces_text c.args.pieces.now) c.requires (λ s. false≢true ((c.if-is_settled_as.ensures c.requires).1 s)) refl refl, c.in_ok-append_scheme.ensures)

use Rattle.git_audit.specs.Secrets.{piece_part}
use Rattle.explain_report.specs.Secrets.{shown_of}
use Rattle.explain_report.proofs.Secrets.PieceLemmas.{shown_all, shown_next}
use Rattle.explain_report.proofs.text.secret.shown_bytes.Goals as goal

pub loop-piece-preserved : goal.loop-piece-preserved
loop-piece-preserved c =
    shown_next (piece_part c.in-Some.piece) c.loop-piece.piece-iterator c.next.new.self c.loop-piece.out.items _ (shown_of c.args.text.now) c.in-Some.ensures.steps c.in_ok-push_piece.ensures c.loop-piece.invariant

pub returns : goal.returns
returns c = shown_all c.loop-piece.piece-iterator c.loop-piece.out.items (shown_of c.args.text.now) c.in-None.ensures.steps.0 c.loop-piece.invariant

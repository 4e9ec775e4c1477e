use Rattle.std.proofs.Common.{◌∙◌, ◌+◌, ◌++◌, drop, sym, ap, append_assoc}
use Rattle.std.proofs.lemmas.List.{at_drop_more}
use Rattle.explain_report.specs.Pieces.{pieces_shown}
use Rattle.explain_report.proofs.text.joined.after_all.Goals as goal

pub loop-piece-preserved : goal.loop-piece-preserved
loop-piece-preserved c =
    let (done, begins, so_far) = c.loop-piece.invariant in
    let i = c.loop-piece.piece-index in
    let pieces = c.args.pieces.now in
    let shown = c.shown.result.now in (
      done ++ shown,
      begins ∙ ap (λ t. done ++ t) c.in_ok-rest.ensures ∙ sym (append_assoc done shown c.in_ok-rest.rest.now),
      so_far ∙ ap (λ t. done ++ t) (at_drop_more pieces_shown pieces i _ c.loop-piece-test.true ∙ ap (λ t. t ++ pieces_shown (drop (i + 1) pieces)) (sym c.shown.ensures))
          ∙ sym (append_assoc done shown (pieces_shown (drop (i + 1) pieces))),
    )

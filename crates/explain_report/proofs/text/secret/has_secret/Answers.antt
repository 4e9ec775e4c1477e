use Rattle.std.proofs.Common.{◌∙◌, sym, ap}
use Rattle.std.specs.List.{list_any}
use Rattle.git_audit.specs.Secrets.{piece_part}
use Rattle.explain_report.specs.Secrets.{is_hidden}
use Rattle.explain_report.proofs.Secrets.PieceLemmas.{hidden_later, hidden_now}
use Rattle.explain_report.proofs.text.secret.has_secret.Goals as goal

pub returns-then-is_hidden : goal.returns-then-is_hidden
returns-then-is_hidden c =
    hidden_now (piece_part c.in-Some.piece) c.loop-piece.piece-iterator c.next.new.self c.in-Some.ensures.steps (sym c.is_hidden.ensures ∙ c.if-is_hidden.true)
    ∙ c.loop-piece.invariant

pub loop-piece-preserved : goal.loop-piece-preserved
loop-piece-preserved c =
    sym (hidden_later (piece_part c.in-Some.piece) c.loop-piece.piece-iterator c.next.new.self c.in-Some.ensures.steps (sym c.is_hidden.ensures ∙ c.if-is_hidden.false))
    ∙ c.loop-piece.invariant

pub returns : goal.returns
returns c = sym (ap (λ all. list_any is_hidden all) c.in-None.ensures.steps.0) ∙ c.loop-piece.invariant

-- If no byte has to be escaped the text stays.
use Rattle.std.proofs.Common.{sym, ◌∙◌}
use Rattle.git_location.proofs.Writing.PieceLemmas.{kept_text}
use Rattle.git_location.proofs.writer.piece.is_kept.Goals as goal

pub returns : goal.returns
returns c = λ all. kept_text c.args.set c.args.text.now (sym c.are_kept.ensures ∙ all)

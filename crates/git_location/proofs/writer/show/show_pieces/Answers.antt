-- Pieces that were put to their end were shown, at once or one by one.
use Rattle.git_location.specs.Internal.Pieces.{pieces_text}
use Rattle.git_location.proofs.Writing.DisplayLemmas.{shown_plain, shown_whole}
use Rattle.git_location.proofs.writer.show.show_pieces.Goals as goal

pub returns-then-size-clause-writes : goal.returns-then-size-clause-writes
returns-then-size-clause-writes g c = shown_plain _ _ _ _ _ c.show_at_once.ensures

pub returns-else-size : goal.returns-else-size
returns-else-size g c =
    let whole = shown_whole g.W.Write.write_str_gives c.args.f.now c.put.new.place c.put.result (pieces_text c.args.pieces.now) c.put.ensures in
    record { writes = shown_plain _ _ _ _ _ whole; styled = whole }

-- An end is shown, whatever bytes it is.
use Rattle.git_location.proofs.Writing.DisplayLemmas.{shown_end}
use Rattle.git_location.proofs.writer.show.ShownSinkFmtFormatter.write_end.Goals as goal

pub returns : goal.returns
returns g c = shown_end g.W.Write.write_str_gives c.args.place.now c.show_lossy.new.f c.show_lossy.result c.args.end.now c.show_lossy.ensures

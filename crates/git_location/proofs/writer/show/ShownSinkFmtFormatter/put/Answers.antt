-- A text that is UTF-8 is shown as it is.
use Rattle.git_location.proofs.Writing.DisplayLemmas.{shown_text}
use Rattle.git_location.proofs.writer.show.ShownSinkFmtFormatter.put.Goals as goal

pub returns : goal.returns
returns g c = shown_text g.W.Write.write_str_gives c.args.place.now c.write_str.new.self c.write_str.result c.args.slice.now c.utf8.slice c.write_str.ensures.styled

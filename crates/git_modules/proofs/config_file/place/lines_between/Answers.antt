-- The line feeds between two places are those by which their lines differ.
use Rattle.git_modules.proofs.ConfigFile.PlaceLemmas.{lines_add}
use Rattle.git_modules.proofs.config_file.place.lines_between.Goals as goal

pub returns : goal.returns
returns c = rw c.count_feeds.ensures (lines_add c.args.text.now c.args.from c.args.to c.requires.order)

-- No lane is 128 or more.
use Rattle.gix_url.proofs.Homes.AsciiLemmas.{ascii_lanes}
use Rattle.gix_url.proofs.expand_path.text.are_ascii.Goals as goal

pub returns : goal.returns
returns g c = ascii_lanes c.args.path.now c.args.at g.row.N c.requires.within c.requires.most

-- The cut of `rsplit_once`.
use Rattle.std.proofs.Common.{arith}
use Rattle.gix_url.proofs.Homes.PathLemmas.{text_last_cut}
use Rattle.gix_url.proofs.expand_path.paths.last_slash.Goals as goal

pub returns : goal.returns
returns c = text_last_cut 47 c.args.text.now c.rsplit_once.result (omega arith) c.rsplit_once.ensures.cases

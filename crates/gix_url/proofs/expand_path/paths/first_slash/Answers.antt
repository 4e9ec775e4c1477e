-- The cut of `split_once`.
use Rattle.std.proofs.Common.{arith}
use Rattle.gix_url.proofs.Homes.PathLemmas.{text_cut}
use Rattle.gix_url.proofs.expand_path.paths.first_slash.Goals as goal

pub returns : goal.returns
returns c = text_cut 47 c.args.text.now c.split_once.result (omega arith) c.split_once.ensures.cases

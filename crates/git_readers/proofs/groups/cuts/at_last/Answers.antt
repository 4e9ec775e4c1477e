-- The library's cut is that of the definition.
use Rattle.git_readers.proofs.GroupLemmas.{last_of}
use Rattle.git_readers.proofs.groups.cuts.at_last.Goals as goal

pub returns : goal.returns
returns c = last_of c.args.byte c.args.text.now c.last_cut.result c.last_cut.ensures

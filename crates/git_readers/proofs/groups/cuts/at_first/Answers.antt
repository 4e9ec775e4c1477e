-- The library's cut is that of the definition.
use Rattle.git_readers.proofs.GroupLemmas.{first_of}
use Rattle.git_readers.proofs.groups.cuts.at_first.Goals as goal

pub returns-clause-found : goal.returns-clause-found
returns-clause-found c = first_of c.args.byte c.args.text.now c.cut.result c.cut.ensures

-- The text is that of a URL.
use Rattle.git_location.proofs.Writing.WrittenAsUrlLemmas.{written_git}
use Rattle.git_location.proofs.settled.url.is_settled_git.Goals as goal

pub is_settled_raw-requires : goal.is_settled_raw-requires
is_settled_raw-requires c = written_git c.args.url.now c.requires

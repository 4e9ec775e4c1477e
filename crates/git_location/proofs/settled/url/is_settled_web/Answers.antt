-- The text is that of a URL.
use Rattle.git_location.proofs.Writing.WrittenAsUrlLemmas.{written_web}
use Rattle.git_location.proofs.settled.url.is_settled_web.Goals as goal

pub is_settled_url-requires : goal.is_settled_url-requires
is_settled_url-requires c = written_web c.args.url.now c.requires

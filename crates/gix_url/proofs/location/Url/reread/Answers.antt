-- The location that is read from the text that a settled location was written as is that location again.
use Rattle.gix_url.proofs.Writing.OwnedLemmas.{read_again}
use Rattle.gix_url.proofs.location.Url.reread.Goals as goal

pub returns-in-Ok-clause-settled : goal.returns-in-Ok-clause-settled
returns-in-Ok-clause-settled c = λ h. read_again c.args.self.now _ _ c.parse.result c.as_bstr.ensures (c.in-Ok.ensures.settled h) c.parse.ensures

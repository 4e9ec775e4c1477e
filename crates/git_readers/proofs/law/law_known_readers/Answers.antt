-- Each reader is a lemma.
use Rattle.git_readers.proofs.KnownLemmas.{credentials_leave, rfc_leaves, transports_leave, whatwg_leaves}
use Rattle.git_readers.proofs.law.law_known_readers.Goals as goal

pub returns : goal.returns
returns c = record { rfc = rfc_leaves; whatwg = whatwg_leaves; transports = transports_leave; credentials = credentials_leave }

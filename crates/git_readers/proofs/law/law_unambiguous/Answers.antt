-- Each law is a lemma.
use Rattle.git_readers.proofs.ReaderLemmas.{read_by_all, urls_read}
use Rattle.git_readers.proofs.law.law_unambiguous.Goals as goal

pub returns-clause-all : goal.returns-clause-all
returns-clause-all c = read_by_all

pub returns-clause-urls : goal.returns-clause-urls
returns-clause-urls c = urls_read

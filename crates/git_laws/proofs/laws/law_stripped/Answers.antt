-- Each law is a lemma.
use Rattle.git_laws.proofs.Writing.StrippedLemmas.{without_password}
use Rattle.git_laws.proofs.Writing.UnspelledLemmas.{web_without_spelling, without_spelling}
use Rattle.git_laws.proofs.laws.law_stripped.Goals as goal

pub returns : goal.returns
returns c = record { password = without_password; web_spelling = web_without_spelling; spelling = without_spelling }

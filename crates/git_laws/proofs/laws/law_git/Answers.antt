-- Each law is a lemma.
use Rattle.git_laws.proofs.GitReadings.GitLemmas.{read_same}
use Rattle.git_reads.proofs.Reading.UniqueLemmas.{one_reading}
use Rattle.git_reads.proofs.Reading.CredentialUniqueLemmas.{one_credential}
use Rattle.git_laws.proofs.GitReadings.WebUriUniqueLemmas.{one_uri}
use Rattle.git_laws.proofs.laws.law_git.Goals as goal

pub returns : goal.returns
returns c = record { alike = read_same; one = one_reading; one_credential = one_credential; one_uri = one_uri }

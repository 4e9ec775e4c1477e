-- Each law is a lemma.
use Rattle.git_laws.proofs.Records.RecordLemmas.{respelled_once, keeps_meaning, migrates, migrated_once}
use Rattle.git_laws.proofs.laws.law_stored.Goals as goal

pub returns : goal.returns
returns c = record {
  respelled = respelled_once;
  keeps_meaning = keeps_meaning;
  migrates = migrates;
  once = migrated_once;
}

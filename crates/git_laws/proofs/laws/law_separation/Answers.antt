-- Each law is a lemma.
use Rattle.git_syntax.proofs.Unique.UniqueLemmas.{spells_unique}
use Rattle.git_laws.proofs.ComponentCuts.ComponentLemmas.{same_components}
use Rattle.git_laws.proofs.Unique.BeforeLemmas.{spelled_from_before, spelled_to_before}
use Rattle.git_laws.proofs.Writing.AgainLemmas.{settled_again, text_decides}
use Rattle.git_laws.proofs.Writing.RereadLemmas.{read_alone}
use Rattle.git_laws.proofs.laws.law_separation.Goals as goal

pub returns : goal.returns
returns c = record {
  unique = spells_unique;
  settled_again = settled_again;
  read_again = read_alone;
  text_decides = text_decides;
  components = same_components;
  before = λ b v. (spelled_from_before b v, spelled_to_before b v);
}

-- Each law is a lemma.
use Rattle.git_laws.specs.Order.{scheme_cmp, scheme_eq}
use Rattle.git_laws.specs.OrderLaws.{scheme_decides, scheme_ties, scheme_total, schemes_alike}
use Rattle.git_laws.proofs.Order.HashLemmas.{schemes_apart}
use Rattle.git_laws.proofs.Order.OrderLemmas.{tied_is_equal}
use Rattle.git_laws.proofs.laws.law_scheme_order.Goals as goal

pub returns : goal.returns
returns c = record {
  same = scheme_decides;
  tied = tied_is_equal scheme_eq scheme_cmp scheme_ties;
  total = scheme_total;
  hashed = schemes_alike;
  hashed_apart = schemes_apart;
}

-- Each law is a lemma.
use Rattle.git_laws.specs.Order.{location_cmp, location_eq}
use Rattle.git_laws.specs.OrderLaws.{location_decides, location_ties, location_total, locations_alike}
use Rattle.git_laws.proofs.Order.HashLemmas.{locations_apart}
use Rattle.git_laws.proofs.Order.OrderLemmas.{spelling_last, tied_is_equal}
use Rattle.git_laws.proofs.laws.law_order.Goals as goal

pub returns : goal.returns
returns c = record {
  same = location_decides;
  tied = tied_is_equal location_eq location_cmp location_ties;
  total = location_total;
  hashed = locations_alike;
  hashed_apart = locations_apart;
  spelling_last = spelling_last;
}

-- Each law is a lemma.
use Rattle.gix_url.specs.HomeOrder.{user_cmp, user_decides, user_eq, user_ties, user_total, users_alike}
use Rattle.git_laws.proofs.Order.OrderLemmas.{tied_is_equal}
use Rattle.gix_url.proofs.home_law.law_user_order.Goals as goal

pub returns : goal.returns
returns c = record {
  same = user_decides;
  tied = tied_is_equal user_eq user_cmp user_ties;
  total = user_total;
  hashed = users_alike;
}

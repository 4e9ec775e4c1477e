use Rattle.git_rules.proofs.Remoted.UniqueLemmas.{one_list, one_push_list, one_push_url, one_url}
use Rattle.git_rules.proofs.remote.law.law_one_remote.Goals as goal

pub returns-clause-urls : goal.returns-clause-urls
returns-clause-urls c = λ rules remote entries a b. one_list rules.fetching _ a b

pub returns-clause-push_urls : goal.returns-clause-push_urls
returns-clause-push_urls c = one_push_list

pub returns-clause-one_url : goal.returns-clause-one_url
returns-clause-one_url c = one_url

pub returns-clause-one_push_url : goal.returns-clause-one_push_url
returns-clause-one_push_url c = one_push_url

-- A settled URL has its path and meets the other conditions.
use Rattle.git_location.proofs.SettledClass.SettledLemmas.{first_fails, second_decides, url_by_parts}
use Rattle.git_location.proofs.settled.url.is_settled_url.Goals as goal

pub returns-then-has_url_path : goal.returns-then-has_url_path
returns-then-has_url_path c = λ own.
    second_decides c.is_settled_beside_path.result (c.has_url_path.ensures.0 c.if-has_url_path.true) (c.is_settled_beside_path.ensures own) (url_by_parts c.args.url.now)

pub returns-else-has_url_path : goal.returns-else-has_url_path
returns-else-has_url_path c = λ own.
    first_fails c.has_url_path.result c.if-has_url_path.false c.has_url_path.ensures (url_by_parts c.args.url.now)

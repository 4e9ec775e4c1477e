-- A settled URL with a raw path has its path and meets the other conditions.
use Rattle.git_location.proofs.SettledClass.SettledLemmas.{first_fails, second_decides, raw_by_parts}
use Rattle.git_location.proofs.settled.url.is_settled_raw.Goals as goal

pub returns-then-has_raw_path : goal.returns-then-has_raw_path
returns-then-has_raw_path c = λ own.
    second_decides c.is_settled_beside_path.result (c.has_raw_path.ensures.0 c.if-has_raw_path.true) (c.is_settled_beside_path.ensures own) (raw_by_parts c.args.url.now)

pub returns-else-has_raw_path : goal.returns-else-has_raw_path
returns-else-has_raw_path c = λ own.
    first_fails c.has_raw_path.result c.if-has_raw_path.false c.has_raw_path.ensures (raw_by_parts c.args.url.now)

-- The error of the front.
use Rattle.std.proofs.Common.{false, length, subst}
use Rattle.git_rules.specs.NormalFlaws.{NormalizesIn}
use Rattle.git_rules.proofs.Matched.PlacedLemmas.{front_refused_by}
use Rattle.git_rules.proofs.pattern.place.normalize_front.Goals as goal

pub returns-in-Err : goal.returns-in-Err
returns-in-Err c =
    let front = c.split_at_mut-text.result.0.now in
    let back = c.split_at_mut-text.result.1.now in
    front_refused_by c.args.buffer.now front back c.args.len c.in-Err.error c.split_at_mut-text.ensures.front c.split_at_mut-text.ensures.front_len c.split_at_mut-text.ensures.back_len (subst (NormalizesIn false front (length back)) c.in-Err.is c.parse_in.ensures)

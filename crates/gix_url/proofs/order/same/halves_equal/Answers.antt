-- The first 16 bytes are the same, so the last 16 decide.
use Rattle.std.proofs.Common.{◌∙◌, ◌-◌, sym, arith, length}
use Rattle.gix_url.proofs.Equality.FrontLemmas.{backs_decide}
use Rattle.gix_url.proofs.order.same.halves_equal.Goals as goal

pub returns-then-ends_equal : goal.returns-then-ends_equal
returns-then-ends_equal c =
    let a = c.args.a.now in
    let b = c.args.b.now in
    c.ends_equal-then-ends_equal.ensures
    ∙ backs_decide 16 (length a - 16) a b (omega arith) c.split_at.ensures.front c.split_at-2.ensures.front c.split_at-then-ends_equal.ensures.back c.split_at-then-ends_equal-2.ensures.back (sym c.ends_equal.ensures ∙ c.if-ends_equal.true)

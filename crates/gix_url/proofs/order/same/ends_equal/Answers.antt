-- The first eight bytes are the same, so the last eight decide.
use Rattle.std.proofs.Common.{◌∙◌, ◌-◌, ap, sym, arith, drop, length}
use Rattle.gix_url.proofs.Equality.FrontLemmas.{backs_decide}
use Rattle.gix_url.proofs.order.same.ends_equal.Goals as goal

pub returns-then-words_equal : goal.returns-then-words_equal
returns-then-words_equal c =
    let a = c.args.a.now in
    let b = c.args.b.now in
    let last = c.last_eight-then-words_equal.ensures ∙ ap (λ n. drop (n - 8) b) (sym c.requires.2) in
    c.words_equal-then-words_equal.ensures
    ∙ backs_decide 8 (length a - 8) a b (omega arith) c.first_eight.ensures c.first_eight-2.ensures c.last_eight.ensures last (sym c.words_equal.ensures ∙ c.if-words_equal.true)

-- Texts that are equal come neither first nor last.
use Rattle.std.proofs.Common.{◌∙◌, sym, option_map}
use Rattle.git_laws.specs.Order.{text_cmp, text_eq}
use Rattle.git_laws.specs.OrderLaws.{text_ties}
use Rattle.git_laws.proofs.Order.OrderLemmas.{tied_is_equal}
use Rattle.gix_url.proofs.order.compare_texts.Goals as goal

pub returns-then-texts_equal : goal.returns-then-texts_equal
returns-then-texts_equal c =
    let a = option_map (λ t. t.now) c.args.a in
    let b = option_map (λ t. t.now) c.args.b in
    sym ((tied_is_equal text_eq text_cmp text_ties a b).1 (sym c.texts_equal.ensures ∙ c.if-texts_equal.true))

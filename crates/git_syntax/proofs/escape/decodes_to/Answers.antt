-- Nothing decodes to nothing.
use Rattle.std.proofs.Common.{◌∙◌, ap, sym, length, ◌==◌}
use Rattle.git_syntax.proofs.Texts.DecodingLemmas.{nothing_decoded}
use Rattle.git_syntax.proofs.Parsing.ClassifierLemmas.{nil_tested}
use Rattle.git_syntax.proofs.escape.decodes_to.Goals as goal

pub returns : goal.returns
returns c =
    let none = nothing_decoded c.loop-byte.left.now c.in_default.ensures in
    (λ empty. c.loop-byte.invariant.agree (none ∙ sym (nil_tested c.loop-byte.rest.now (sym empty ∙ c.is_empty.ensures))), λ equal. c.is_empty.ensures ∙ ap (λ t. length t == 0) (sym (c.loop-byte.invariant.agreed equal) ∙ none))

-- White space begins with one of a few bytes. If one of them is, the bytes of the text decide.
use Rattle.std.proofs.Common.{◌∙◌, ap, sym}
use Rattle.git_syntax.specs.Internal.WhiteSpace.{holds_space}
use Rattle.git_syntax.proofs.Texts.WhiteSpaceLemmas.{none_begins, space_in_bytes}
use Rattle.git_syntax.proofs.white_space.has_white_space.Goals as goal

pub returns-then-may_hold_space : goal.returns-then-may_hold_space
returns-then-may_hold_space c = c.holds_space.ensures ∙ ap holds_space c.as_bytes-bytes.ensures.value ∙ space_in_bytes c.args.text.now c.utf8.text

pub returns-else-may_hold_space : goal.returns-else-may_hold_space
returns-else-may_hold_space c =
    let none = none_begins c.as_bytes-bytes.result.now (sym c.may_hold_space.ensures ∙ c.if-may_hold_space.false) in
    c.if-may_hold_space.false ∙ sym none ∙ ap holds_space c.as_bytes-bytes.ensures.value ∙ space_in_bytes c.args.text.now c.utf8.text

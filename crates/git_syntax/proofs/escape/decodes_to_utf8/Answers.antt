-- A plain text decodes to itself, and so does one with no `%`.
use Rattle.std.proofs.Common.{◌∙◌, refl, sym, subst}
use Rattle.std.specs.Str.{IsUtf8}
use Rattle.git_syntax.proofs.Texts.EscapeLemmas.{decode_kept}
use Rattle.git_syntax.proofs.Texts.PlainLemmas.{plain_means_utf8}
use Rattle.git_syntax.proofs.escape.decodes_to_utf8.Goals as goal

pub returns-then-is_plain : goal.returns-then-is_plain
returns-then-is_plain c = (λ _. plain_means_utf8 c.args.text.now (sym c.if-is_plain.ensures), λ _. refl)

pub returns-else-has_percent : goal.returns-else-has_percent
returns-else-has_percent c =
    let kept = decode_kept c.args.text.now (sym c.has_percent.ensures ∙ c.if-has_percent.false) in
    let plain = c.is_utf8.ensures in
    (λ is. subst IsUtf8 (sym kept) (plain.0 is), λ whole. plain.1 (subst IsUtf8 kept whole))

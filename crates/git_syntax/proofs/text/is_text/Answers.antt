-- A plain text is UTF-8.
use Rattle.std.proofs.Common.{sym}
use Rattle.git_syntax.proofs.Texts.PlainLemmas.{plain_utf8}
use Rattle.git_syntax.proofs.text.is_text.Goals as goal

pub returns-then-is_plain : goal.returns-then-is_plain
returns-then-is_plain c = (λ _. plain_utf8 c.args.bytes.now (sym c.if-is_plain.ensures), λ _. c.if-is_plain.true)

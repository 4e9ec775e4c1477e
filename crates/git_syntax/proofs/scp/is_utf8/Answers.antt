-- A plain text is UTF-8.
use Rattle.git_syntax.proofs.Texts.PlainLemmas.{plain_utf8}
use Rattle.git_syntax.proofs.scp.is_utf8.Goals as goal

pub returns-then-plain : goal.returns-then-plain
returns-then-plain c = (λ _. plain_utf8 c.args.text.now (c.requires c.if-plain.true), λ _. c.if-plain.true)

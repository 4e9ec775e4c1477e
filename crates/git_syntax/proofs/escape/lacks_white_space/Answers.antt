-- A printable text holds no white space.
use Rattle.std.proofs.Common.{sym, subst}
use Rattle.git_syntax.specs.Bytes.{LacksWhiteSpace}
use Rattle.git_syntax.proofs.Texts.AsciiLemmas.{printable_white_space}
use Rattle.git_syntax.proofs.escape.lacks_white_space.Goals as goal

pub returns-then-is_printable : goal.returns-then-is_printable
returns-then-is_printable c = (λ _. subst LacksWhiteSpace c.as_bytes.ensures.value (printable_white_space c.as_bytes.result.now (sym c.if-is_printable.ensures)), λ _. c.if-is_printable.true)

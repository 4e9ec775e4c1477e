-- A printable text holds no white space.
use Rattle.std.proofs.Common.{sym}
use Rattle.git_syntax.proofs.Texts.LookLemmas.{known_white_space}
use Rattle.git_syntax.proofs.url_syntax.has_no_white_space.Goals as goal

pub returns-then-is_printable : goal.returns-then-is_printable
returns-then-is_printable c = (λ _. known_white_space c.args.byte_class c.args.text.now c.requires (sym c.if-is_printable.ensures), λ _. c.if-is_printable.true)

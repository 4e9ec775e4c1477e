-- A plain text holds no `%`.
use Rattle.std.proofs.Common.{sym}
use Rattle.git_syntax.proofs.Texts.LookLemmas.{known_free}
use Rattle.git_syntax.proofs.url_syntax.holds_escape.Goals as goal

pub returns-then-is_plain : goal.returns-then-is_plain
returns-then-is_plain c = sym (known_free c.args.byte_class c.args.piece.now c.requires (sym c.if-is_plain.ensures))

-- A text that decodes to ASCII decodes to UTF-8.
use Rattle.std.proofs.Common.{refl, sym}
use Rattle.git_syntax.proofs.Texts.LookLemmas.{known_means_utf8}
use Rattle.git_syntax.proofs.url_syntax.means_text.Goals as goal

pub returns-then-is_ascii : goal.returns-then-is_ascii
returns-then-is_ascii c = (λ _. known_means_utf8 c.args.byte_class c.args.piece.now c.requires (sym c.if-is_ascii.ensures), λ _. refl)

-- A text with no `%` decodes to itself.
use Rattle.std.proofs.Common.{sym}
use Rattle.git_syntax.proofs.Texts.EscapeLemmas.{decode_kept}
use Rattle.git_location.proofs.buffer.decoded_in.Goals as goal

pub returns-then-not-has_percent-clause-text : goal.returns-then-not-has_percent-clause-text
returns-then-not-has_percent-clause-text c = sym (decode_kept c.args.text.now (sym c.if-not-has_percent.ensures))

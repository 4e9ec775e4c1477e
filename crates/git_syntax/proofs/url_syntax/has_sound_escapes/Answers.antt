-- The classified text is known to be sound.
use Rattle.std.proofs.Common.{◌∙◌, sym}
use Rattle.git_syntax.proofs.Texts.LookLemmas.{known_sound}
use Rattle.git_syntax.proofs.url_syntax.has_sound_escapes.Goals as goal

pub returns-then-is_printable : goal.returns-then-is_printable
returns-then-is_printable c = c.if-is_printable.true ∙ sym (known_sound c.args.byte_class c.args.text.now c.requires (sym c.if-is_printable.ensures))

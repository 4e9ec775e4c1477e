-- A text of bytes that need no escape is written as it is.
use Rattle.std.proofs.Common.{◌∙◌, sym}
use Rattle.git_location.proofs.Texts.UnescapedLemmas.{ready_path}
use Rattle.git_location.proofs.writer.unescaped.needs_no_escape.Goals as goal

pub returns : goal.returns
returns c = λ all. ready_path c.args.text.now (sym c.are_unescaped_in_path.ensures ∙ all)

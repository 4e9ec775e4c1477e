-- A text of bytes that need no escape is written as it is.
use Rattle.std.proofs.Common.{◌∙◌, sym}
use Rattle.git_location.proofs.Texts.UnescapedLemmas.{ready_user, ready_password}
use Rattle.git_location.proofs.writer.unescaped.user_needs_no_escape.Goals as goal

pub returns-clause-user : goal.returns-clause-user
returns-clause-user c = λ all. ready_user c.args.text.now (sym c.are_unescaped_in_user.ensures ∙ all)

pub returns-clause-password : goal.returns-clause-password
returns-clause-password c = λ all. ready_password c.args.text.now (sym c.are_unescaped_in_user.ensures ∙ all)

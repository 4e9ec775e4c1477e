-- A search finds such a byte exactly if there is one.
use Rattle.std.proofs.Common.{◌∙◌}
use Rattle.git_class.specs.GitClass.{is_contested}
use Rattle.git_syntax.proofs.Parsing.LengthLemmas.{search_decides}
use Rattle.git_class.proofs.agreement.holds_contested.Goals as goal

pub returns : goal.returns
returns c = c.is_some.ensures ∙ search_decides is_contested c.args.text.now c.memchr3.result c.memchr3.ensures

-- A name of HTTP is a scheme.
use Rattle.std.proofs.Common.{◌∙◌, sym}
use Rattle.git_syntax.proofs.Parsing.SchemeLemmas.{web_scheme}
use Rattle.git_syntax.proofs.url_syntax.is_scheme.Goals as goal

pub returns-then-rules : goal.returns-then-rules
returns-then-rules c = c.if-rules.true ∙ sym (web_scheme c.args.scheme.now (sym c.requires.web ∙ c.if-rules.true))

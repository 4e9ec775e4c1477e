-- An escaped text is empty exactly if it decodes to nothing.
use Rattle.std.proofs.Common.{arith}
use Rattle.std.proofs.lemmas.Bool.Decides.{nat_tests}
use Rattle.git_syntax.proofs.Parsing.UrlLemmas.{nothing_denoted, something_denoted}
use Rattle.git_syntax.proofs.url_syntax.unless_empty.Goals as goal

pub returns-then-is_empty : goal.returns-then-is_empty
returns-then-is_empty c = nothing_denoted c.args.text.now (grind (arith, nat_tests))

pub returns-else-is_empty : goal.returns-else-is_empty
returns-else-is_empty c = something_denoted c.args.text.now (grind (arith, nat_tests))

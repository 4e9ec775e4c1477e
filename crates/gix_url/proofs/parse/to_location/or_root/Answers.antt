-- An empty path is the root, any other stays.
use Rattle.std.proofs.Common.{arith}
use Rattle.std.proofs.lemmas.Bool.Decides.{nat_tests}
use Rattle.git_syntax.proofs.Parsing.UrlLocationLemmas.{root_denoted, path_denoted}
use Rattle.gix_url.proofs.parse.to_location.or_root.Goals as goal

pub returns-then-is_empty : goal.returns-then-is_empty
returns-then-is_empty c = root_denoted c.args.path.now (grind (arith, nat_tests))

pub returns-else-is_empty : goal.returns-else-is_empty
returns-else-is_empty c = path_denoted c.args.path.now (grind (arith, nat_tests))

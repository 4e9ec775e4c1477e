-- The name of a helper is ASCII.
use Rattle.std.proofs.Common.{sym}
use Rattle.git_syntax.proofs.Parsing.ClassifierLemmas.{helper_name_utf8}
use Rattle.git_rules.proofs.protocols.text.by_scheme.Goals as goal

pub as_text-requires : goal.as_text-requires
as_text-requires c = helper_name_utf8 c.args.scheme.now (sym c.if-not-is_helper_name.ensures)

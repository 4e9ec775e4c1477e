-- A helper's name is before the first colon, and another colon follows it.
use Rattle.std.proofs.Common.{refl, sym}
use Rattle.git_syntax.proofs.Parsing.ClassifierLemmas.{no_helper_alone, no_helper_unnamed}
use Rattle.git_syntax.proofs.classify.helper_address.Goals as goal

pub returns-in-None : goal.returns-in-None
returns-in-None c = no_helper_alone _ c.args.name.now c.args.rest.now c.requires refl c.in-None.ensures

pub returns-else-is_helper_name : goal.returns-else-is_helper_name
returns-else-is_helper_name c = no_helper_unnamed _ c.args.name.now c.args.rest.now c.requires refl (sym c.if-is_helper_name.ensures)

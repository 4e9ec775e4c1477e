use Rattle.std.proofs.Common.{refl}
use Rattle.git_syntax.proofs.Texts.EscapeSets.{path_holds, password_holds, user_holds}
use Rattle.git_syntax.proofs.escape.law_sets.Goals as goal

pub returns : goal.returns
returns c = record { path = (refl, path_holds); password = (refl, password_holds); user = (refl, user_holds) }

-- A location is of the class by its parts, and by the conditions of settled URLs except for those on paths.
use Rattle.git_location.proofs.SettledClass.SettledLemmas.{first_fails, second_decides}
use Rattle.git_class.proofs.Classes.WebClassLemmas.{class_by_parts}
use Rattle.git_location.proofs.Writing.WrittenAsUrlLemmas.{written_web}
use Rattle.git_class.proofs.web.agrees_over_web.Goals as goal

pub is_settled_beside_path-requires : goal.is_settled_beside_path-requires
is_settled_beside_path-requires c = written_web c.args.url.now c.requires

pub returns-then-has_unambiguous_parts : goal.returns-then-has_unambiguous_parts
returns-then-has_unambiguous_parts c =
    second_decides c.is_settled_beside_path.result (c.has_unambiguous_parts.ensures.0 c.if-has_unambiguous_parts.true) (c.is_settled_beside_path.ensures tt) (class_by_parts c.args.url.now c.requires)

pub returns-else-has_unambiguous_parts : goal.returns-else-has_unambiguous_parts
returns-else-has_unambiguous_parts c =
    first_fails c.has_unambiguous_parts.result c.if-has_unambiguous_parts.false c.has_unambiguous_parts.ensures (class_by_parts c.args.url.now c.requires)

-- The bytes of a URI and the other conditions decide.
use Rattle.std.proofs.Common.{◌∙◌, sym}
use Rattle.git_location.proofs.SettledClass.SettledLemmas.{first_fails, second_decides}
use Rattle.git_class.proofs.Classes.WebClassLemmas.{uri_spelling_by_parts}
use Rattle.git_class.proofs.web.is_uri_spelling.Goals as goal

pub returns-then-are_uri_bytes : goal.returns-then-are_uri_bytes
returns-then-are_uri_bytes c =
    second_decides c.spells_uri_path.result (sym c.are_uri_bytes.ensures ∙ c.if-are_uri_bytes.true) c.spells_uri_path.ensures (uri_spelling_by_parts c.args.path.now c.args.spelling.now)

pub returns-else-are_uri_bytes : goal.returns-else-are_uri_bytes
returns-else-are_uri_bytes c =
    first_fails c.are_uri_bytes.result c.if-are_uri_bytes.false (λ yes. sym c.are_uri_bytes.ensures ∙ yes, λ all. c.are_uri_bytes.ensures ∙ all) (uri_spelling_by_parts c.args.path.now c.args.spelling.now)

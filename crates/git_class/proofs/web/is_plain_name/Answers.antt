-- The last label of a name is one.
use Rattle.std.proofs.Common.{◌∙◌, sym}
use Rattle.git_class.proofs.Classes.WebClassLemmas.{plain_by_label}
use Rattle.git_location.proofs.SettledClass.SettledLemmas.{second_decides}
use Rattle.git_class.proofs.web.is_plain_name.Goals as goal

pub returns-then-are_plain_host_bytes : goal.returns-then-are_plain_host_bytes
returns-then-are_plain_host_bytes c =
    let label = plain_by_label c.args.name.now c.last_label.result.now c.last_label.ensures in
    second_decides c.begins_with_letter.result (sym c.are_plain_host_bytes.ensures ∙ c.if-are_plain_host_bytes.true) (λ yes. sym c.begins_with_letter.ensures ∙ yes, λ letter. c.begins_with_letter.ensures ∙ letter) label

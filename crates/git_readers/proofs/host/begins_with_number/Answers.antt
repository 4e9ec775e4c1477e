-- Digits are free of dots, so they are the text before the first one.
use Rattle.std.proofs.Common.{◌∙◌, refl, sym}
use Rattle.git_readers.proofs.PartLemmas.{number_first}
use Rattle.git_syntax.specs.Bytes.{dot}
use Rattle.git_readers.proofs.host.begins_with_number.Goals as goal

pub returns-in-Some : goal.returns-in-Some
returns-in-Some c =
    let e = c.in-Some.ensures in (
      λ yes. (c.in-Some.digits.now, c.in-Some.field-0-1.now, sym c.are_digits.ensures ∙ yes, e.1),
      λ (digits, rest, all, joined). c.are_digits.ensures ∙ number_first dot digits rest c.in-Some.digits.now c.in-Some.field-0-1.now refl all e.0 (sym joined ∙ e.1),
    )

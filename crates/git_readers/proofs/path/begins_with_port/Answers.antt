-- Digits are free of slashes, so they are the text before the first one.
use Rattle.std.proofs.Common.{◌≡◌, ◌∙◌, refl, sym, subst, true}
use Rattle.std.specs.List.{list_all}
use Rattle.std.specs.Char.{is_ascii_digit}
use Rattle.git_syntax.specs.Bytes.{slash, begins_by}
use Rattle.git_readers.proofs.PartLemmas.{number_same}
use Rattle.git_readers.proofs.path.begins_with_port.Goals as goal

pub returns-in-Some : goal.returns-in-Some
returns-in-Some c =
    let e = c.in-Some.ensures in (
      λ yes.
          let number = c.is_number.ensures.0 yes in
          record { digits = c.in-Some.digits.now; rest = c.in-Some.field-0-1.now; nonempty = number.0; number = number.1; joined = e.1 },
      λ has.
          let same = number_same slash has.digits has.rest c.in-Some.digits.now c.in-Some.field-0-1.now refl has.number e.0 (sym has.joined ∙ e.1) in
          c.is_number.ensures.1 (subst (λ x. begins_by is_ascii_digit x ≡ true) same has.nonempty, subst (λ x. list_all is_ascii_digit x ≡ true) same has.number),
    )

-- The text is cut at its first `/`.
use Rattle.std.proofs.Common.{◌∙◌, ap, length, not, sym}
use Rattle.git_readers.proofs.PartLemmas.{before_cut, some_from, some_to}
use Rattle.git_readers.proofs.path.has_slash_before.Goals as goal

pub returns-in-Some : goal.returns-in-Some
returns-in-Some c =
    let e = c.in-Some.ensures in
    let front = c.in-Some.field-0-0.now in
    let suffix = c.in-Some.suffix.now in (
      λ there. record { front = front; suffix = suffix; joined = e.1; nonempty = some_from (length suffix) (sym (ap not c.is_empty.ensures) ∙ there) },
      λ has. ap not c.is_empty.ensures ∙ some_to (length suffix) (before_cut c.args.text.now front suffix e.0 e.1 has),
    )

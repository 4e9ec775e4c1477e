-- A text is shown as it is.
use Rattle.std.proofs.Common.{sym, ◌∙◌}
use Rattle.std.proofs.Output.{has_written_styled_of_eq}
use Rattle.bstr.proofs.lemmas.EncodeLemmas.{lossy_chars-utf8}
use Rattle.git_location.proofs.writer.show.show_lossy.Goals as goal

pub returns-in-Ok : goal.returns-in-Ok
returns-in-Ok g c = λ flush ok.
    let read = c.in-Ok.ensures.cases in
    has_written_styled_of_eq _ _ _ _ _ (read.0 ∙ sym (lossy_chars-utf8 c.args.bytes.now read.1)) (c.write_str.ensures.styled flush ok)

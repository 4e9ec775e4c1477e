-- If the text has no length there is a fault, and the buffer is as it was.
use Rattle.std.proofs.Common.{refl, sym}
use Rattle.gix_url.specs.Text.{text}
use Rattle.c_values.proofs.ShownLemmas.{unwritten}
use Rattle.c_values.proofs.writing.write.Goals as goal

pub returns-in-Err-clause-reported : goal.returns-in-Err-clause-reported
returns-in-Err-clause-reported c =
    let fault = unwritten (text c.args.url.now) c.in-Err.fault (sym c.in-Err.ensures.length) in
    rw fault (refl, c.unwritable.ensures)

pub returns-in-Err-clause-buffer : goal.returns-in-Err-clause-buffer
returns-in-Err-clause-buffer c =
    let fault = unwritten (text c.args.url.now) c.in-Err.fault (sym c.in-Err.ensures.length) in
    λ failed. rw fault at c.in-Err.ensures.placed

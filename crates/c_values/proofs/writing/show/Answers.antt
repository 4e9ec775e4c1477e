-- The shown text is the one that there is to be shown, and if the text has no length there is a fault.
use Rattle.std.proofs.Common.{refl, sym, subst, string_bytes}
use mathlib.Core.Logic.{inr}
use Rattle.gix_url.specs.Text.{text}
use Rattle.gix_url.specs.Display.{display}
use Rattle.c_values.specs.Answers.{PutsText}
use Rattle.c_values.proofs.ShownLemmas.{both, shown_as, unshown, unwritten}
use Rattle.c_values.proofs.writing.show.Goals as goal

pub returns-in-Err-clause-reported : goal.returns-in-Err-clause-reported
returns-in-Err-clause-reported c =
    let fault = unwritten (text c.args.url.now) c.in-Err.fault (sym c.in-Err.ensures) in
    let nothing = unshown (display c.args.url.now) (text c.args.url.now) c.in-Err.fault (both c.args.url.now) fault in
    inr (rw nothing (c.in-Err.fault, fault, (refl, c.unwritable.ensures)))

pub returns-in-Ok-clause-reported : goal.returns-in-Ok-clause-reported
returns-in-Ok-clause-reported c =
    let shown = shown_as (display c.args.url.now) (text c.args.url.now) c.in_default.field-0 (string_bytes c.in-Ok.shown) (both c.args.url.now) (sym c.in_default.ensures) c.in-Ok.ensures.ok in
    inr (rw shown (subst (λ t. PutsText t c.args.buffer.now c.write_text.new.buffer c.write_text.new.len c.write_text.result) c.as_bytes.ensures.value c.write_text.ensures.put))

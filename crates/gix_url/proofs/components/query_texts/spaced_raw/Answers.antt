-- The byte of the turn has its space, those before it have theirs, and those after it stay.
use Rattle.std.proofs.Common.{◌<◌, ◌∙◌, arith, length}
use Rattle.std.proofs.lemmas.List.{length-set}
use Rattle.gix_url.proofs.ComponentCuts.FieldLemmas.{left_next, spaced_next}
use Rattle.gix_url.proofs.components.query_texts.spaced_raw.Goals as goal

pub loop-byte-preserved : goal.loop-byte-preserved
loop-byte-preserved c =
    let items = c.loop-byte.byte-items in
    let before = c.loop-byte.invariant in
    let inside : c.loop-byte.byte-index < length items = omega (arith, c.loop-byte-test.true, c.loop-byte.auto.byte-items) in record {
      built = spaced_next c.args.text.now items c.loop-byte.byte-index c.spaced_byte.result inside before.size before.built before.left c.spaced_byte.ensures;
      left = left_next c.args.text.now items c.loop-byte.byte-index c.spaced_byte.result before.left;
      size = length-set items c.loop-byte.byte-index c.spaced_byte.result ∙ before.size;
    }

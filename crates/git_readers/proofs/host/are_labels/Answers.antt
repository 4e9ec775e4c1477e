-- Each label is cut off at its dot.
use Rattle.std.proofs.Common.{◌∙◌, refl, sym}
use Rattle.std.proofs.lemmas.Bool.{both_ways}
use Rattle.git_readers.specs.Unambiguous.{AreLabels}
use Rattle.git_readers.proofs.PartLemmas.{label_alone, labels_cut}
use Rattle.git_readers.proofs.host.are_labels.Goals as goal

pub loop-label-preserved : goal.loop-label-preserved
loop-label-preserved c =
    let e = c.in-Some.ensures in (
      λ others. c.loop-label.invariant.0 (AreLabels.more c.loop-label.rest.now c.in-Some.label.now c.in-Some.suffix.now (c.is_plain_label.ensures.0 c.if-not-is_plain_label.false) others e.1),
      λ all. (labels_cut c.loop-label.rest.now c.in-Some.label.now c.in-Some.suffix.now e.0 e.1 (c.loop-label.invariant.1 all)).1,
    )

pub returns-then-not-is_plain_label : goal.returns-then-not-is_plain_label
returns-then-not-is_plain_label c =
    let e = c.in-Some.ensures in (
      λ wrong. absurd (both_ways _ refl wrong),
      λ all. absurd (both_ways _ c.if-not-is_plain_label.true (c.is_plain_label.ensures.1 (labels_cut c.loop-label.rest.now c.in-Some.label.now c.in-Some.suffix.now e.0 e.1 (c.loop-label.invariant.1 all)).0)),
    )

pub returns-then-is_plain_label : goal.returns-then-is_plain_label
returns-then-is_plain_label c = (
  λ letter. c.loop-label.invariant.0 (AreLabels.last c.loop-label.rest.now (c.is_plain_label-2.ensures.0 c.if-is_plain_label.true) (sym c.begins_with_letter.ensures ∙ letter)),
  λ all. c.begins_with_letter.ensures ∙ (label_alone c.loop-label.rest.now c.in_default.ensures (c.loop-label.invariant.1 all)).1,
)

pub returns-else-is_plain_label : goal.returns-else-is_plain_label
returns-else-is_plain_label c = (
  λ wrong. absurd (both_ways _ c.if-is_plain_label.false wrong),
  λ all. c.is_plain_label-2.ensures.1 (label_alone c.loop-label.rest.now c.in_default.ensures (c.loop-label.invariant.1 all)).0,
)

-- A segment is cut off at its `/`.
use Rattle.std.proofs.Common.{refl, ⊎_elim}
use Rattle.std.proofs.lemmas.Bool.{both_ways}
use Rattle.git_readers.specs.Unambiguous.{HasDots}
use Rattle.git_readers.proofs.PartLemmas.{dots_alone, dots_cut}
use Rattle.git_readers.proofs.path.has_dots.Goals as goal

pub returns-then-is_dots : goal.returns-then-is_dots
returns-then-is_dots c =
    let e = c.in-Some.ensures in
    (λ yes. c.loop-segment.invariant.0 (HasDots.first c.loop-segment.rest.now c.in-Some.segment.now c.in-Some.suffix.now (c.is_dots.ensures.0 c.if-is_dots.true) e.1), λ has. refl)

pub loop-segment-preserved : goal.loop-segment-preserved
loop-segment-preserved c =
    let e = c.in-Some.ensures in (
      λ later. c.loop-segment.invariant.0 (HasDots.later c.loop-segment.rest.now c.in-Some.segment.now c.in-Some.suffix.now later e.1),
      λ has. ⊎_elim (λ dots. absurd (both_ways _ c.if-is_dots.false (c.is_dots.ensures.1 dots))) (λ later. later) (dots_cut c.loop-segment.rest.now c.in-Some.segment.now c.in-Some.suffix.now e.0 e.1 (c.loop-segment.invariant.1 has)),
    )

pub returns : goal.returns
returns c = (
  λ dots. c.loop-segment.invariant.0 (HasDots.whole c.loop-segment.rest.now (c.is_dots-2.ensures.0 dots)),
  λ has. c.is_dots-2.ensures.1 (dots_alone c.loop-segment.rest.now c.in_default.ensures (c.loop-segment.invariant.1 has)),
)

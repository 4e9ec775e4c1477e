-- A dot segment begins at the first `.`, or follows it.
use Rattle.std.proofs.Common.{inl, inr, refl, ⊎_elim}
use Rattle.std.proofs.lemmas.Bool.{both_ways}
use Rattle.git_class.proofs.Classes.WebClassLemmas.{no_segment, segment_cut}
use Rattle.git_class.proofs.web.has_dot_segment.Goals as goal

pub returns-then-is_dot_segment : goal.returns-then-is_dot_segment
returns-then-is_dot_segment c =
    let cut = segment_cut c.loop-front.rest.now c.in-Some.front.now c.in-Some.suffix.now c.in-Some.ensures.0 c.in-Some.ensures.1 in
    (λ yes. c.loop-front.invariant.0 (cut.0 (inl (c.is_dot_segment.ensures.0 c.if-is_dot_segment.true))), λ has. refl)

pub loop-front-preserved : goal.loop-front-preserved
loop-front-preserved c =
    let cut = segment_cut c.loop-front.rest.now c.in-Some.front.now c.in-Some.suffix.now c.in-Some.ensures.0 c.in-Some.ensures.1 in (
      λ later. c.loop-front.invariant.0 (cut.0 (inr later)),
      λ has. ⊎_elim (λ dots. absurd (both_ways _ c.if-is_dot_segment.false (c.is_dot_segment.ensures.1 dots))) (λ later. later) (cut.1 (c.loop-front.invariant.1 has)),
    )

pub returns : goal.returns
returns c = (
  λ wrong. absurd (both_ways _ refl wrong),
  λ has. absurd (no_segment c.loop-front.rest.now c.in_default.ensures (c.loop-front.invariant.1 has)),
)

-- The text is cut at each `/`.
use Rattle.std.proofs.Common.{◌∙◌, ⊎_elim}
use Rattle.std.proofs.lemmas.Bool.{both_ways}
use Rattle.git_readers.proofs.PartLemmas.{slashes_cut, slashes_later}
use Rattle.git_readers.proofs.path.has_slashes.Goals as goal

pub loop-suffix-preserved : goal.loop-suffix-preserved
loop-suffix-preserved c =
    let e = c.in-Some.ensures in
    let rest = c.loop-suffix.rest.now in
    let front = c.in-Some.field-0-0.now in
    let suffix = c.in-Some.suffix.now in (
      λ held. c.loop-suffix.invariant.0 (slashes_later rest front suffix e.1 held),
      λ held. ⊎_elim (λ begins. absurd (both_ways _ c.if-starts_with_byte.false (c.starts_with_byte.ensures ∙ begins))) (λ later. later) (slashes_cut rest front suffix e.0 e.1 (c.loop-suffix.invariant.1 held)),
    )

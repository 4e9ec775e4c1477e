-- A mark starts only at its first byte.
use Rattle.std.proofs.Common.{◌≡◌, ℕ, ◌+◌, ◌-◌, ◌<◌, ◌≤◌, Bool, true, List, length, take, drop, eqb, slice_index, length-drop, get_or-drop, sym, ap, subst, ◌∙◌, arith, ⊎_elim}
use Rattle.std.proofs.Math.Seq.{take-append_seam}
use Rattle.std.proofs.lemmas.Bool.{cases_lt, eq-eqb, false≢true}
use Rattle.std.proofs.lemmas.Bool.Decides.{Decides-eqb}
use Rattle.std.proofs.lemmas.Slice.Eq.{starts_is}
use Rattle.std.specs.List.{starts_with}
use Rattle.memchr.specs.Find.{Nowhere, OccursAt, Passes, is_byte}
use Rattle.memchr.proofs.lemmas.MatchLemmas.{OccursAt-from_part, OccursAt-split}
use Rattle.explain_report.proofs.marks.place_of.Invariants.{Passed}
use Rattle.explain_report.proofs.marks.place_of.Goals as goal

-- no mark starts in the first n bytes of the rest, if none of them is the mark's first one
passed : (text mark rest : List ℕ) (from n : ℕ) → Passed text mark from → rest ≡ drop from text
    → Nowhere (Passes (is_byte (slice_index mark 0)) rest) 0 n → Nowhere (OccursAt text mark) 0 (from + n)
passed text mark rest from n h whole none k low high occurs =
    ⊎_elim
    (λ before. h.nowhere k low before occurs)
    (λ after.
    let j = k - from in
    let place : from + j ≡ k + 0 = omega arith in
    let byte : slice_index rest j ≡ slice_index mark 0 =
    ap (λ l. slice_index l j) whole ∙ get_or-drop from text j 0 ∙ ap (slice_index text) place ∙ occurs.reads 0 h.filled in
    none j (omega arith) (omega arith) (eq-eqb _ _ byte))
    (cases_lt k from)

-- the rest begins with the mark exactly if the mark starts there in the text
begins : (text mark rest : List ℕ) (at : ℕ) (found : Bool) → rest ≡ drop at text → at ≤ length text
    → (found ≡ true → length mark ≤ length rest) → found ≡ starts_with eqb rest mark
    → (found ≡ true → OccursAt text mark at) × (OccursAt text mark at → found ≡ true)
begins text mark rest at found whole within bound value =
    let both = starts_is Decides-eqb rest mark found value in (
      (λ yes_is.
          let fits : at + length mark ≤ length text = omega (arith, bound yes_is, ap length whole, length-drop at text) in
          let front = ap (take (length mark)) (both.0 yes_is) ∙ take-append_seam mark (drop (length mark) rest) in
          OccursAt-from_part text mark at fits (sym (ap (take (length mark)) whole) ∙ front)),
      λ occurs. both.1 _ (whole ∙ OccursAt-split text mark at occurs),
    )

pub returns-then-starts_with : goal.returns-then-starts_with
returns-then-starts_with c =
    let text = c.args.text.now in
    let mark = c.args.mark.now in
    let from = c.loop-at.from in
    let at = c.in-Some.at in
    let h = c.loop-at.invariant in
    let byte = c.in-Some.ensures.0 in
    let back = c.split_at.ensures.back in
    let none = passed text mark _ from at h back byte.before in
    let whole = c.split_at-in-Some.ensures.back in
    let within : from + at ≤ length text = omega (arith, h.within, byte.high, ap length back, length-drop from text) in
    let occurs = (begins text mark _ (from + at) _ whole within c.starts_with.ensures.bound c.starts_with.ensures.value).0 c.if-starts_with.true in
    (record { low = omega arith; high = omega (arith, within); before = none }, occurs)

pub loop-at-preserved : goal.loop-at-preserved
loop-at-preserved c =
    let text = c.args.text.now in
    let mark = c.args.mark.now in
    let from = c.loop-at.from in
    let at = c.in-Some.at in
    let h = c.loop-at.invariant in
    let byte = c.in-Some.ensures.0 in
    let back = c.split_at.ensures.back in
    let none = passed text mark _ from at h back byte.before in
    let whole = c.split_at-in-Some.ensures.back in
    let within : from + at < length text = omega (arith, h.within, byte.high, ap length back, length-drop from text) in
    let here = (begins text mark _ (from + at) _ whole (omega (arith, within)) c.starts_with.ensures.bound c.starts_with.ensures.value).1 in
    record {
      within = omega (arith, within);
      filled = h.filled;
      nowhere = λ k low high occurs. ⊎_elim
          (λ before. none k low before occurs)
          (λ after.
          let same : k ≡ from + at = omega (arith, high, after) in
          false≢true (sym c.if-starts_with.false ∙ here (subst (OccursAt text mark) same occurs)))
          (cases_lt k (from + at));
    }

pub returns : goal.returns
returns c =
    let text = c.args.text.now in
    let from = c.loop-at.from in
    let h = c.loop-at.invariant in
    let back = c.split_at.ensures.back in
    let rest = length-drop from text in
    let none = passed text c.args.mark.now _ from (length text - from) h back
    (λ k low high. c.in_default-find_byte.ensures k low (omega (arith, high, ap length back, rest))) in
    λ k low high occurs. none k low (omega (arith, occurs.fits, h.filled, h.within)) occurs

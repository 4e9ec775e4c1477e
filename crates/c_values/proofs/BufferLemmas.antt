-- Bytes that are put one after the other at the front of a buffer.
use Rattle.std.proofs.Common.{◌≡◌, ℕ, ◌+◌, List, ◌++◌, length, take, drop, ap, sym, ◌∙◌, append_assoc, length-append}
use Rattle.std.proofs.Math.Seq.{drop-append_seam, take-append_seam}
use Rattle.std.proofs.lemmas.List.{drop-drop}

-- the buffer begins with this front, which ends at this place, and the text after it is as it was
pub record BeginsWith (front old new : List ℕ) (at : ℕ) : Type 0 where
  pub here : at ≡ length front
  pub begins : new ≡ front ++ drop (length front) old

-- bytes that are put after the front make it longer
pub write_after : (front bytes old before after : List ℕ) (at end : ℕ) → BeginsWith front old before at
    → end ≡ at + length bytes
    → after ≡ take at before ++ (bytes ++ drop (length bytes) (drop at before))
    → BeginsWith (front ++ bytes) old after end
write_after front bytes old before after at end was ends put =
    let back = drop (length front) old in
    let first : take at before ≡ front =
    ap (λ n. take n before) was.here ∙ ap (take (length front)) was.begins ∙ take-append_seam front back in
    let suffix : drop at before ≡ back =
    ap (λ n. drop n before) was.here ∙ ap (drop (length front)) was.begins ∙ drop-append_seam front back in
    let rest : drop (length bytes) (drop at before) ≡ drop (length (front ++ bytes)) old =
    ap (drop (length bytes)) suffix ∙ drop-drop (length bytes) (length front) old
    ∙ ap (λ n. drop n old) (sym (length-append front bytes)) in
    record {
      here = ends ∙ ap (λ n. n + length bytes) was.here ∙ sym (length-append front bytes);
      begins = put ∙ ap (λ f. f ++ (bytes ++ drop (length bytes) (drop at before))) first
          ∙ sym (append_assoc front bytes (drop (length bytes) (drop at before)))
          ∙ ap (λ r. (front ++ bytes) ++ r) rest;
    }

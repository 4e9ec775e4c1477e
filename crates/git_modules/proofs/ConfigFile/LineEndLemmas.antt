-- The bytes around an offset in a line end: a carriage return precedes it, and a line feed follows it.
use Rattle.std.proofs.Common.{◌≡◌, ◌∙◌, ◌+◌, ℕ, true, List, [], ◌∷◌, ◌++◌, length, take, drop, ap, subst}
use Rattle.std.proofs.Math.Seq.{drop-append_seam, drop-append-add, take-append-add}
use Rattle.git_syntax.specs.Bytes.{begins_with, carriage_return, newline}
use Rattle.git_modules.specs.ConfigFiles.{IsInLineEnd}

-- a line feed follows the offset
pub feed_after : (text : List ℕ) (at : ℕ) → IsInLineEnd text at → begins_with newline (drop at text) ≡ true
feed_after text at (front, rest, is, place) =
    ap (begins_with newline) (ap (λ k. drop k text) place ∙ ap (drop (length front + 1)) is ∙ drop-append-add front (carriage_return ∷ newline ∷ rest) 1)

-- a carriage return precedes it
pub return_before : (text : List ℕ) (at : ℕ) → IsInLineEnd text at → (kept : List ℕ) × (take at text ≡ kept ++ carriage_return ∷ [])
return_before text at (front, rest, is, place) =
    (front, ap (λ k. take k text) place ∙ ap (take (length front + 1)) is ∙ take-append-add front (carriage_return ∷ newline ∷ rest) 1)

-- the offset of a carriage return isn't in a line end
pub not_at_return : (text kept more : List ℕ) → text ≡ kept ++ carriage_return ∷ more → IsInLineEnd text (length kept) → ⊥
not_at_return text kept more is inside =
    let after : drop (length kept) text ≡ carriage_return ∷ more = ap (drop (length kept)) is ∙ drop-append_seam kept (carriage_return ∷ more) in
    let feed : begins_with newline (carriage_return ∷ more) ≡ true = subst (λ z. begins_with newline z ≡ true) after (feed_after text (length kept) inside) in
    cc

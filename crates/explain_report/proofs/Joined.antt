-- Pieces as they are shown, one after the other.
use Rattle.std.proofs.Common.{◌≡◌, ◌∙◌, ◌⊎◌, ℕ, zero, suc, List, [], replicate, ◌∷◌, ◌++◌, refl, sym, ap, append_assoc, append-nil, codes, inl, inr}
use Rattle.explain_report.specs.declared.text.cut.Piece.{Piece}
use Rattle.explain_report.specs.Pieces.{IsShownAs, piece_shown, pieces_shown}

-- a last piece
shown_last : (front : List Piece) (last : Piece) → pieces_shown (front ++ last ∷ []) ≡ pieces_shown front ++ piece_shown last
shown_last [] last = append-nil (piece_shown last)
shown_last (p ∷ ps) last = ap (λ t. piece_shown p ++ t) (shown_last ps last) ∙ sym (append_assoc (piece_shown p) (pieces_shown ps) (piece_shown last))

-- pieces are shown as a text if those before the last one are a front of it, and the last one the rest or the word
pub shown_as : (pieces front : List Piece) (last : Piece) (text rest shown : List ℕ) → pieces ≡ front ++ last ∷ [] → text ≡ pieces_shown front ++ rest
    → shown ≡ piece_shown last → (shown ≡ rest) ⊎ (shown ≡ codes "redacted") → IsShownAs text (pieces_shown pieces)
shown_as pieces front last text rest shown cut begins is (inl same) =
    inl (ap pieces_shown cut ∙ shown_last front last ∙ ap (λ t. pieces_shown front ++ t) (sym is ∙ same) ∙ sym begins)
shown_as pieces front last text rest shown cut begins is (inr word) =
    inr (pieces_shown front, rest, begins, ap pieces_shown cut ∙ shown_last front last ∙ ap (λ t. pieces_shown front ++ t) (sym is ∙ word))

-- pieces of which nothing is shown
none_shown : (n : ℕ) (p : Piece) → piece_shown p ≡ [] → pieces_shown (replicate n p) ≡ []
none_shown zero p none = refl
none_shown (suc n) p none = ap (λ t. t ++ pieces_shown (replicate n p)) none ∙ none_shown n p none

-- a piece before sixteen of those
pub shown_alone : (first empty : Piece) → piece_shown empty ≡ [] → pieces_shown (first ∷ replicate 16 empty) ≡ piece_shown first
shown_alone first empty none = ap (λ t. piece_shown first ++ t) (none_shown 16 empty none) ∙ append-nil (piece_shown first)

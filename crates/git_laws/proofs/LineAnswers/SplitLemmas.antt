-- A text is split into lines in one way.
use Rattle.std.proofs.Common.{◌≡◌, ℕ, List, [], ◌∷◌, ◌++◌, append_assoc, All, refl, sym, subst, ◌∙◌, arith}
use Rattle.std.proofs.lemmas.Bool.Decides.{nat_tests}
use Rattle.std.proofs.lemmas.List.Elements.{All-head, All-tail}
use Rattle.git_syntax.specs.Bytes.{newline, FreeOf}
use Rattle.git_location.specs.Answers.{ended_lines}
use Rattle.git_laws.specs.AnswerLaws.{OneLineSplit}
use Rattle.git_syntax.proofs.Texts.CutLemmas.{cut_unique, not_free}

-- the first line, and the text after its end
first_line : (line : List ℕ) (lines : List (List ℕ)) (last : List ℕ) → ended_lines (line ∷ lines) ++ last ≡ line ++ newline ∷ (ended_lines lines ++ last)
first_line line lines last = append_assoc (line ++ newline ∷ []) (ended_lines lines) last ∙ append_assoc line (newline ∷ []) (ended_lines lines ++ last)

-- the lines with an end are determined, and so is the text after the last end
ended_unique : (f g : List (List ℕ)) (x y : List ℕ) → All (FreeOf newline) f → All (FreeOf newline) g → FreeOf newline x → FreeOf newline y → ended_lines f ++ x ≡ ended_lines g ++ y → (f ≡ g) × (x ≡ y)
ended_unique [] [] x y a b free freed e = (refl, e)
ended_unique [] (k ∷ g) x y a b free freed e = absurd (not_free newline k (ended_lines g ++ y) (subst (FreeOf newline) (e ∙ first_line k g y) free))
ended_unique (h ∷ f) [] x y a b free freed e = absurd (not_free newline h (ended_lines f ++ x) (subst (FreeOf newline) (sym e ∙ first_line h f x) freed))
ended_unique (h ∷ f) (k ∷ g) x y a b free freed e =
    let both = cut_unique newline h k (ended_lines f ++ x) (ended_lines g ++ y) (All-head (FreeOf newline) h f a) (All-head (FreeOf newline) k g b) (sym (first_line h f x) ∙ e ∙ first_line k g y) in
    let (rest, last) = ended_unique f g x y (All-tail (FreeOf newline) h f a) (All-tail (FreeOf newline) k g b) free freed both.1 in (
      λ i. both.0 i ∷ rest i,
      last,
    )

-- a text is split into lines in one way
pub one_split : OneLineSplit
one_split = grind (arith, nat_tests, ended_unique)

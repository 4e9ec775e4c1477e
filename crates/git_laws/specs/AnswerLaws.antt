-- Laws on the answers to lines, over the definitions alone: each line has one answer, and a text has one split
-- into lines.
use Rattle.std.specs.Prelude.{◌≡◌, ℕ, Bool, List, [], ◌∷◌, ◌++◌}
use Rattle.git_syntax.specs.Bytes.{newline, FreeOf}
use Rattle.git_location.specs.Answers.{SplitsLines, IsAnswer, Answers}

-- the bytes are one line and its end
abbrev pub IsEndedLine : List ℕ → Type 0
IsEndedLine b = (line : List ℕ) × FreeOf newline line × (b ≡ line ++ newline ∷ [])

-- the answer to a line is one line and its end
abbrev pub OneLine : Type 0
OneLine = (line answer : List ℕ) (good : Bool) → FreeOf newline line → IsAnswer line answer good
    → IsEndedLine answer

-- the lists have the same length, and each text of the second list, with its line end, is the answer to the
-- line at the same index
abbrev pub AreAnswered : List (List ℕ) → List (List ℕ) → Type 0
AreAnswered [] [] = Unit {0}
AreAnswered [] (reported ∷ others) = ⊥
AreAnswered (line ∷ lines) [] = ⊥
AreAnswered (line ∷ lines) (reported ∷ others) =
    ((good : Bool) × IsAnswer line (reported ++ newline ∷ []) good) × AreAnswered lines others

-- a text has at most one split into lines
abbrev pub OneLineSplit : Type 0
OneLineSplit = (b : List ℕ) (lines more : List (List ℕ)) → SplitsLines b lines → SplitsLines b more
    → lines ≡ more

-- the answers to a text are as many lines as the text, each the answer to the line at the same index
abbrev pub LineForLine : Type 0
LineForLine = (b out : List ℕ) (good : Bool) → Answers b out good
    → (lines : List (List ℕ)) × (reported : List (List ℕ)) × SplitsLines b lines × SplitsLines out reported
    × AreAnswered lines reported

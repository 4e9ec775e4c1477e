-- Pieces of a line as they are shown, concatenated.
use Rattle.std.specs.Prelude.{◌≡◌, ◌⊎◌, ℕ, List, [], ◌∷◌, ◌++◌, codes}
use Rattle.explain_report.specs.declared.text.cut.Cut.{Cut}
use Rattle.explain_report.specs.declared.text.cut.Piece.{Piece}
use Rattle.explain_report.specs.declared.text.cut.Part.{Part}
use Rattle.explain_report.specs.declared.text.cut.Part.TheVariants as part
use Rattle.explain_report.specs.Secrets.{password_shown, shown_of}

-- the text of a part as it is shown: `redacted` for a password that isn't empty
abbrev pub text_shown_as : Part → List ℕ → List ℕ
text_shown_as part.Password text = password_shown text
text_shown_as _ text = text

-- a piece as it is shown
abbrev pub piece_shown : Piece → List ℕ
piece_shown p = text_shown_as p.part p.text.now

-- pieces as they are shown
abbrev pub pieces_shown : List Piece → List ℕ
pieces_shown [] = []
pieces_shown (p ∷ ps) = piece_shown p ++ pieces_shown ps

-- all pieces of a line as they are shown
abbrev pub cut_shown : Cut → List ℕ
cut_shown cut = pieces_shown cut.pieces

-- a front of the text, and `redacted` in place of the rest
abbrev pub IsCutShort : List ℕ → List ℕ → Type 0
IsCutShort text shown = (front : List ℕ) × (rest : List ℕ) × (text ≡ front ++ rest) × (shown ≡ front ++ codes "redacted")

-- the text, or a front of it and `redacted` in place of the rest
abbrev pub IsShownAs : List ℕ → List ℕ → Type 0
IsShownAs text shown = (shown ≡ text) ⊎ IsCutShort text shown

-- the text that is shown of the line, a front of it and `redacted` in place of the rest, or `redacted` alone
abbrev pub AreShownOf : List ℕ → List ℕ → Type 0
AreShownOf line shown = IsShownAs (shown_of line) shown ⊎ (shown ≡ password_shown line)

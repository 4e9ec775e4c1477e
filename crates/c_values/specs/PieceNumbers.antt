-- The pieces of a text as C gets them: two numbers each.
use Rattle.std.specs.Prelude.{◌≡◌, ℕ, List, [], ◌∷◌, length}
use Rattle.std.specs.List.{flat_map}
use Rattle.git_audit.specs.Secrets.{Part, parts_of}
use Rattle.git_audit.specs.Secrets.Part.{shown, hidden}
use Rattle.c_values.specs.Answers.{reported_length}
use Rattle.c_values.specs.Output.{Puts}

-- the length of a piece, and whether it is hidden
abbrev pub part_numbers : Part → List ℕ
part_numbers (shown bytes) = length bytes ∷ 0 ∷ []
part_numbers (hidden bytes) = length bytes ∷ 1 ∷ []

-- the pieces of a text are copied, and their number reported
abbrev pub ReportsPieces : List ℕ → List ℕ → List ℕ → ℕ → ℕ → Type 0
ReportsPieces text old new count code =
    (count ≡ reported_length (length (parts_of text))) × Puts (flat_map part_numbers (parts_of text)) old new code

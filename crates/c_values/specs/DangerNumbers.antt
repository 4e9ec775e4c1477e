-- Dangers as C gets them: by their numbers.
use Rattle.std.specs.Prelude.{ℕ, List, map}
use Rattle.git_audit.specs.declared.danger.Danger.{Danger}
use Rattle.git_audit.specs.declared.danger.Danger.TheVariants as danger
use Rattle.git_audit.specs.Dangers.{AreDangers}
use Rattle.gix_url.specs.Location.{Location}
use Rattle.c_values.specs.Answers.{PutsText}

-- the number of a danger: its place in the order of the header
abbrev pub danger_number : Danger → ℕ
danger_number danger.Command = 1
danger_number danger.OptionLikeUser = 2
danger_number danger.OptionLikeHost = 3
danger_number danger.OptionLikePath = 4
danger_number danger.Password = 5
danger_number danger.Token = 6
danger_number danger.HostCharacter = 7
danger_number danger.LineEnd = 8
danger_number danger.OtherHost = 9
danger_number danger.MisreadHost = 10

-- the numbers of the dangers of a text and its location are copied
abbrev pub ReportsDangers : List ℕ → Location → List ℕ → List ℕ → ℕ → ℕ → Type 0
ReportsDangers t v old new count code =
    (found : List Danger) × AreDangers t v found × PutsText (map danger_number found) old new count code

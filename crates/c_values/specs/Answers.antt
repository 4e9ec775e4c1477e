-- The reports of the exports: a result of the library, by numbers and bytes.
use Rattle.std.specs.Prelude.{◌≡◌, ℕ, ◌-◌, ◌^◌, min, Bool, IsTrue, ◌↔◌, ◌⊎◌, List, length, Option, Some, None, Result, Ok, Err}
use Rattle.gix_url.specs.declared.error.Error.{Error}
use Rattle.git_location.specs.declared.parse_error.ParseError.{ParseError}
use Rattle.git_location.specs.declared.parse_error.ParseError.TheVariants as unread
use Rattle.git_location.specs.declared.write_error.WriteFault.{WriteFault}
use Rattle.git_readers.specs.declared.unambiguous.Condition.{Condition}
use Rattle.git_readers.specs.Conditions.{IsFirstUnmet, IsUnambiguous}
use Rattle.gix_url.specs.Location.{Location}
use Rattle.gix_url.specs.Readings.{ReadsIn}
use Rattle.gix_url.specs.FromParts.{BuiltFrom}
use Rattle.gix_url.specs.Settled.{IsSettled}
use Rattle.gix_url.specs.GitClass.{AgreesWithGit}
use Rattle.gix_url.specs.Text.{text}
use Rattle.gix_url.specs.Display.{display}
use Rattle.c_values.specs.declared.codes.Problem.{Problem}
use Rattle.c_values.specs.declared.output.PartLengths.{PartLengths}
use Rattle.c_values.specs.Codes.{ok, unwritable, condition_number, error_code, Reports, refusal_code, problem_of_refusal, no_problem, write_problem}
use Rattle.c_values.specs.Output.{Returns, Puts}

-- a result is reported: a location is returned, or an error by its number and its problem
abbrev pub ReportsResult : Result Location Error → PartLengths → List ℕ → List ℕ → Problem → ℕ → Type 0
ReportsResult (Ok v) built old new problem code = Returns v built old new code
ReportsResult (Err e) built old new problem code = (code ≡ error_code e) × Reports e problem

-- a reading of the bytes with a buffer that is long enough is reported: a location is returned, or the refusal
abbrev pub ReportsAnswer : List ℕ → Result Location ParseError → PartLengths → List ℕ → List ℕ → Problem → ℕ → Type 0
ReportsAnswer b (Ok v) built old new problem code = (problem ≡ no_problem) × Returns v built old new code
ReportsAnswer b (Err unread.NoRoom) built old new problem code = ⊥
ReportsAnswer b (Err (unread.Refused why)) built old new problem code =
    (code ≡ refusal_code why) × (problem ≡ problem_of_refusal b why)

-- the result of reading the bytes is reported, with a buffer as long as the bytes
abbrev pub ReportsRead : List ℕ → PartLengths → List ℕ → List ℕ → Problem → ℕ → Type 0
ReportsRead b built old new problem code = (answer : Result Location ParseError) × ReadsIn b (length b) answer
    × ReportsAnswer b answer built old new problem code

-- the result of building a location from parts is reported
abbrev pub ReportsBuilt : Location → PartLengths → List ℕ → List ℕ → Problem → ℕ → Type 0
ReportsBuilt parts built old new problem code = (answer : Result Location Error) × BuiltFrom parts answer × ReportsResult answer built old new problem code

-- whether the location is settled is reported
abbrev pub ReportsSettled : Location → Bool → ℕ → Type 0
ReportsSettled v settled code = (code ≡ ok) × (IsTrue settled ↔ IsSettled v)

-- whether the location is in the class of `agrees_with_git` is reported
abbrev pub ReportsAgreement : Location → Bool → ℕ → Type 0
ReportsAgreement v agrees code = (code ≡ ok) × (IsTrue agrees ↔ AgreesWithGit v)

-- the first condition that the location doesn't meet is reported by its number, or 0 if it meets all
abbrev pub ReportsCondition : Location → ℕ → ℕ → Type 0
ReportsCondition v number code = (code ≡ ok)
    × (((number ≡ 0) × IsUnambiguous v) ⊎ ((unmet : Condition) × (number ≡ condition_number unmet) × IsFirstUnmet unmet v))

-- a fault of writing is reported
abbrev pub ReportsFault : WriteFault → Problem → ℕ → Type 0
ReportsFault f problem code = (code ≡ unwritable) × (problem ≡ write_problem f)

-- a text is reported
abbrev pub PutsText : List ℕ → List ℕ → List ℕ → ℕ → ℕ → Type 0
PutsText t old new len code = (len ≡ length t) × Puts t old new code

-- the location has a text
abbrev pub HasText : Location → Type 0
HasText v = (t : List ℕ) × (text v ≡ Ok t)

-- a length as it is reported: the largest number of C if it is longer, and no buffer is so long
abbrev pub reported_length : ℕ → ℕ
reported_length n = min n (2 ^ 64 - 1)

-- a text is reported, or the fault for which there is no text
abbrev pub ReportsText : Result (List ℕ) WriteFault → List ℕ → List ℕ → ℕ → Problem → ℕ → Type 0
ReportsText (Ok t) old new len problem code = (len ≡ reported_length (length t)) × Puts t old new code
ReportsText (Err f) old new len problem code = ReportsFault f problem code

-- the shown text of a location is reported, or the fault for which it has no text
abbrev pub ReportsShown : Option (List ℕ) → Result (List ℕ) WriteFault → List ℕ → List ℕ → ℕ → Problem → ℕ → Type 0
ReportsShown (Some shown) r old new len problem code = PutsText shown old new len code
ReportsShown None r old new len problem code = (f : WriteFault) × (r ≡ Err f) × ReportsFault f problem code

-- the shown text of this location is reported, or the fault for which it has no text
abbrev pub ReportsDisplay : Location → List ℕ → List ℕ → ℕ → Problem → ℕ → Type 0
ReportsDisplay v old new len problem code = ReportsShown (display v) (text v) old new len problem code

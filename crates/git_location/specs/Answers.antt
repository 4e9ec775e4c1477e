-- The result of `lines::run`: an answer for each line.
use Rattle.std.specs.Prelude.{◌≡◌, ℕ, Bool, true, false, List, ◌++◌, codes, Option, Result, Ok, Err, IfSome, ◌≤◌, ◌&&◌, [], ◌∷◌, All, length, flat_map}
use Rattle.std.specs.Io.KnownBytes.{Appends, IsAtEnd}
use Rattle.git_refusals.specs.declared.reason.RefusalKind.{RefusalKind}
use Rattle.git_refusals.specs.declared.reason.RefusalKind.TheVariants as kind
use Rattle.git_refusals.specs.declared.refusal.Refusal.{Refusal}
use Rattle.git_location.specs.declared.lines.RunError.{RunError}
use Rattle.git_location.specs.declared.lines.RunError.TheVariants as run
use Rattle.git_syntax.specs.Location.{Location}
use Rattle.git_syntax.specs.declared.refusal.UrlFault.{UrlFault}
use Rattle.git_syntax.specs.declared.refusal.UrlFault.TheVariants as fault
use Rattle.git_location.specs.declared.write_error.WriteFault.{WriteFault}
use Rattle.git_syntax.specs.Bytes.{tab, newline, FreeOf}
use Rattle.git_syntax.specs.Schemes.{scheme_text}
use Rattle.git_syntax.specs.Grammar.{Spells}
use Rattle.git_location.specs.Text.{text}
use Rattle.git_location.specs.Settled.{IsSettled}
use Rattle.git_refusals.specs.Kinds.{kind_of}
use Rattle.git_refusals.specs.Reasons.{Refused}

-- lines, each followed by its line end
abbrev pub ended_lines : List (List ℕ) → List ℕ
ended_lines lines = flat_map (λ line. line ++ newline ∷ []) lines

-- a last line without a line end counts if it isn't empty
abbrev pub last_line : List ℕ → List (List ℕ)
last_line [] = []
last_line (b ∷ bs) = (b ∷ bs) ∷ []

-- the text consists of these lines
pub record SplitsLines (b : List ℕ) (lines : List (List ℕ)) : Type 0 where
  pub full : List (List ℕ)
  pub last : List ℕ
  pub each : All (FreeOf newline) full
  pub open_ended : FreeOf newline last
  pub joined : b ≡ ended_lines full ++ last
  pub counted : lines ≡ full ++ last_line last

-- no line of the text is longer than this: no part of it without a line end is
abbrev pub HasLinesWithin : ℕ → List ℕ → Type 0
HasLinesWithin most b = (before line suffix : List ℕ) → FreeOf newline line
    → b ≡ before ++ (line ++ suffix) → length line ≤ most

-- the name of a fault of a URL
abbrev pub fault_name : UrlFault → List ℕ
fault_name fault.NoScheme = codes "NoScheme"
fault_name fault.BadPort = codes "BadPort"
fault_name fault.BadCharacter = codes "BadCharacter"
fault_name fault.HostRequired = codes "HostRequired"

-- the name of the error that a text is refused with
abbrev pub error_name : RefusalKind → List ℕ
error_name kind.EmptyLocal = codes "EmptyLocal"
error_name kind.MissingPath = codes "MissingPath"
error_name kind.NotUtf8 = codes "NotUtf8"
error_name kind.TooLong = codes "TooLong"
error_name (kind.BadUrl named) = codes "BadUrl " ++ fault_name named

-- the name of the error of a refusal
abbrev pub refusal_name : Refusal → List ℕ
refusal_name r = error_name (kind_of r.reason)

-- a line: a word, a tab and a text
abbrev pub reported_line : List ℕ → List ℕ → List ℕ
reported_line word of_what = word ++ (tab ∷ (of_what ++ newline ∷ []))

-- the report on a location, and whether it is settled
pub data IsReported (v : Location) (answer : List ℕ) (good : Bool) : Type 0 where
  -- a settled location: its text
  settled : (t : List ℕ) → text v ≡ Ok t → IsSettled v → answer ≡ reported_line (codes "settled") t
      → good ≡ true → IsReported v answer good
  -- another location with a text: its scheme
  unsettled : (t : List ℕ) → text v ≡ Ok t → ¬ IsSettled v
      → answer ≡ reported_line (codes "unsettled") (scheme_text v.scheme) → good ≡ false
      → IsReported v answer good
  -- a location without a text: its scheme
  unwritable : (f : WriteFault) → text v ≡ Err f
      → answer ≡ reported_line (codes "unwritable") (scheme_text v.scheme) → good ≡ false
      → IsReported v answer good

-- the answer to a line, and whether the line is a settled location
pub data IsAnswer (line answer : List ℕ) (good : Bool) : Type 0 where
  -- the report on the one location that it spells
  reported : (v : Location) → Spells line v → IsReported v answer good → IsAnswer line answer good
  -- the name of its one refusal; it spells no location then (`RefusedUnspelled`)
  refused : (r : Refusal) → Refused line r → answer ≡ reported_line (codes "refused") (refusal_name r)
      → good ≡ false → IsAnswer line answer good

-- the answers to lines, in order, and whether each line is settled
abbrev pub AnswersEach : List (List ℕ) → List ℕ → Bool → Type 0
AnswersEach [] out good = (out ≡ []) × (good ≡ true)
AnswersEach (line ∷ lines) out good =
    (answer : List ℕ) × (more : List ℕ) × (first : Bool) × (others : Bool)
    × IsAnswer line answer first × AnswersEach lines more others × (out ≡ answer ++ more)
    × (good ≡ (first && others))

-- the answers to all lines of a text
abbrev pub Answers : List ℕ → List ℕ → Bool → Type 0
Answers b out good = (lines : List (List ℕ)) × SplitsLines b lines × AnswersEach lines out good

-- the effect of a run: on `Ok` all of the input is answered; if an allocation or the reader failed, nothing is
-- written
abbrev pub Ran : {W : Type 0} → (W → Option (List ℕ)) → Option (List ℕ) → W → W
    → Result Bool RunError → Type 0
Ran contents input old new (Ok good) = IfSome input
    (λ b. (out : List ℕ) × Answers b out good × Appends (contents old) (contents new) out)
Ran contents input old new (Err run.Memory) = new ≡ old
Ran contents input old new (Err (run.Read e)) = new ≡ old
Ran contents input old new (Err (run.Write e)) = Unit {0}

-- the rest of the input after a run: nothing on `Ok`, and nothing if the writer failed
abbrev pub RanToEnd : Option (List ℕ) → Result Bool RunError → Type 0
RanToEnd rest (Ok good) = IsAtEnd rest
RanToEnd rest (Err run.Memory) = Unit {0}
RanToEnd rest (Err (run.Read e)) = Unit {0}
RanToEnd rest (Err (run.Write e)) = IsAtEnd rest

-- an allocation or the reader failed, and not the writer
abbrev pub IsBeforeWriting : RunError → Type 0
IsBeforeWriting run.Memory = Unit {0}
IsBeforeWriting (run.Read e) = Unit {0}
IsBeforeWriting (run.Write e) = ⊥

-- the call appended the answer to the line and returned whether the line is settled, or an allocation failed
abbrev pub AppendsAnswer : List ℕ → List ℕ → List ℕ → Result Bool RunError → Type 0
AppendsAnswer line old new (Ok good) = (answer : List ℕ) × IsAnswer line answer good
    × (new ≡ old ++ answer)
AppendsAnswer line old new (Err fault) = fault ≡ run.Memory

-- the call appended the report on the location and returned whether the location is settled, or an allocation
-- failed
abbrev pub AppendsReport : Location → List ℕ → List ℕ → Result Bool RunError → Type 0
AppendsReport v old new (Ok good) = (answer : List ℕ) × IsReported v answer good × (new ≡ old ++ answer)
AppendsReport v old new (Err fault) = fault ≡ run.Memory

-- the call appended the answer to a line with this refusal, or an allocation failed
abbrev pub AppendsRefusal : Refusal → List ℕ → List ℕ → Result Bool RunError → Type 0
AppendsRefusal r old new (Ok good) = (good ≡ false)
    × (new ≡ old ++ reported_line (codes "refused") (refusal_name r))
AppendsRefusal r old new (Err fault) = fault ≡ run.Memory

-- the call appended these bytes, or an allocation failed
abbrev pub AppendsBytes : List ℕ → List ℕ → List ℕ → Result (Unit {0}) RunError → Type 0
AppendsBytes bytes old new (Ok u) = new ≡ old ++ bytes
AppendsBytes bytes old new (Err fault) = fault ≡ run.Memory

-- the program's message for a fault
abbrev pub fault_text : RunError → List ℕ
fault_text run.Memory = codes "locations: out of memory"
fault_text (run.Read e) = codes "locations: cannot read"
fault_text (run.Write e) = codes "locations: cannot write"

-- the exit status of the program
abbrev pub status_of : Result Bool RunError → ℕ
status_of (Ok true) = 0
status_of (Ok false) = 1
status_of (Err fault) = 2

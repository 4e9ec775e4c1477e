-- The text that is shown of a text: its pieces, with `redacted` in place of each that may be a secret.
use Rattle.std.specs.Prelude.{◌≡◌, ◌↔◌, ℕ, IsTrue, Bool, true, false, List, [], ◌∷◌, ◌++◌, codes, Option, Some, None}
use Rattle.std.specs.List.{list_any}
use Rattle.git_syntax.specs.Bytes.{lossy_text}
use Rattle.git_syntax.specs.Grammar.{Spells}
use Rattle.gix_url.specs.GitClass.{AgreesWithGit}
use Rattle.gix_url.specs.Location.{Location}
use Rattle.gix_url.specs.Settled.{IsSettled}
use Rattle.git_audit.specs.Secrets.{Part, hidden, parts_of, shown}
use Rattle.explain_report.specs.declared.text.seen.Seen.{Seen}
use Rattle.explain_report.specs.declared.text.seen.Seen.TheVariants as seen

-- a piece as it is shown
abbrev pub part_shown : Part → List ℕ
part_shown (shown bytes) = bytes
part_shown (hidden bytes) = codes "redacted"

-- pieces as they are shown
abbrev pub parts_shown : List Part → List ℕ
parts_shown [] = []
parts_shown (part ∷ parts) = part_shown part ++ parts_shown parts

-- a text as it is shown
abbrev pub shown_of : List ℕ → List ℕ
shown_of text = parts_shown (parts_of text)

-- a text as it is shown, decoded
abbrev pub text_shown : List ℕ → List ℕ
text_shown text = lossy_text (shown_of text)

-- pieces without the bytes of those that may be secrets
abbrev pub outlined : List Part → List Part
outlined [] = []
outlined (shown bytes ∷ parts) = shown bytes ∷ outlined parts
outlined (hidden bytes ∷ parts) = hidden [] ∷ outlined parts

-- texts that differ only in bytes that may be secrets are shown as the same text
abbrev pub LeavesSecretsOut : Type 0
LeavesSecretsOut = (a b : List ℕ) → outlined (parts_of a) ≡ outlined (parts_of b) → shown_of a ≡ shown_of b

-- a piece may be a secret
abbrev pub is_hidden : Part → Bool
is_hidden (shown bytes) = false
is_hidden (hidden bytes) = true

-- a part of the text may be a secret
abbrev pub has_secret : List ℕ → Bool
has_secret text = list_any is_hidden (parts_of text)

-- a password as it is shown
abbrev pub password_shown : List ℕ → List ℕ
password_shown [] = []
password_shown (b ∷ bytes) = codes "redacted"

-- the text is shown as itself, except for at most one part
abbrev pub IsShownAround : List ℕ → Type 0
IsShownAround text = (front : List ℕ) × (password : List ℕ) × (rest : List ℕ)
    × (text ≡ front ++ (password ++ rest)) × (shown_of text ≡ front ++ (password_shown password ++ rest))

-- both locations are settled or neither is, and Git is known to read the same in both or in neither
abbrev pub HaveSameVerdicts : Location → Location → Type 0
HaveSameVerdicts v w = (IsSettled v ↔ IsSettled w) × (AgreesWithGit v ↔ AgreesWithGit w)

-- the way to show a line that is read as this location: as itself except for a password; as its shown text, which
-- spells a location with the same verdicts; or not at all, and only if a part of the line may be a secret
abbrev pub IsSeen : List ℕ → Location → Seen → Type 0
IsSeen line v seen.Line = IsShownAround line
IsSeen line v (seen.Other it) = (it.line.items ≡ shown_of line) × Spells (shown_of line) it.url
    × HaveSameVerdicts v it.url
IsSeen line v seen.Withheld = IsTrue (has_secret line)

-- the line and the location to report in place of these, unless they are withheld
abbrev pub shown_as : List ℕ → Location → Seen → Option (List ℕ × Location)
shown_as line v seen.Line = Some (line, v)
shown_as line v (seen.Other it) = Some (it.line.items, it.url)
shown_as line v seen.Withheld = None

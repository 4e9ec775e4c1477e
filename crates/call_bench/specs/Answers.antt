-- The results of the exports: numbers, defined by the facts about a location that they represent.
use Rattle.std.specs.Prelude.{◌≡◌, ◌<◌, ℕ, List, Option, IsUtf8, codes, length, None, Some, Ok}
use Rattle.git_rules.specs.Config.{ConfigEntry}
use Rattle.git_rules.specs.ConfigItems.{HasEntries}
use Rattle.git_rules.specs.RewriteEntries.{rules_of}
use Rattle.git_rules.specs.Rewrites.{IsRewritten, Outcome, Rules, outcome_text}
use Rattle.gix_url.specs.Components.{Components, ComponentsOf}
use Rattle.gix_url.specs.Display.{display}
use Rattle.gix_url.specs.FromParts.{BuiltFrom}
use Rattle.gix_url.specs.Grammar.{Spells}
use Rattle.gix_url.specs.Homes.{HomeUser, SplitsHome, Expands}
use Rattle.gix_url.specs.Records.{migrated}
use Rattle.gix_url.specs.Stored.{recorded_location}
use Rattle.gix_url.specs.Text.{text}
use Rattle.gix_url.specs.Location.{Location}
use Rattle.gix_url.specs.declared.stored.StoredUrl.{StoredUrl}
use Rattle.json.specs.Lex.{tokens}
use Rattle.json.specs.Print.{print}

-- a number other than 0 says this of a location that the bytes spell
abbrev pub SaysOf : (Location → ℕ → Type 0) → List ℕ → ℕ → Type 0
SaysOf says b n = 0 < n → (v : Location) × Spells b v × says v n

-- the length of its text
abbrev pub IsTextLength : Location → ℕ → Type 0
IsTextLength v n = (t : List ℕ) × (text v ≡ Ok t) × (length t ≡ n)

-- the length of its path
abbrev pub IsPathLength : Location → ℕ → Type 0
IsPathLength v n = length v.path ≡ n

-- the length of its shown text
abbrev pub IsShownLength : Location → ℕ → Type 0
IsShownLength v n = (t : List ℕ) → display v ≡ Some t → length t ≡ n

-- the length of the path among its components
abbrev pub IsComponentLength : Location → ℕ → Type 0
IsComponentLength v n = (c : Components) × ComponentsOf v c × (length c.path ≡ n)

-- the length of a path that is text, expanded by the home folder `/home/ann` of the current user
abbrev pub IsExpansionLength : Option HomeUser → List ℕ → ℕ → Type 0
IsExpansionLength user path n = IsUtf8 path → (whole : List ℕ)
    × Expands (Some (codes "/home/ann")) user path (Some whole) × (length whole ≡ n)

-- the same of its path, after the front that names a home folder
abbrev pub IsExpandedLength : Location → ℕ → Type 0
IsExpandedLength v n = (user : Option HomeUser) × (rest : List ℕ) × SplitsHome v.path user rest
    × IsExpansionLength user rest n

-- the length of the path that is read in its text
abbrev pub IsRereadLength : Location → ℕ → Type 0
IsRereadLength v n = (again : Location) × ((t : List ℕ) → text v ≡ Ok t → Spells t again)
    × (length again.path ≡ n)

-- the length of the path of the location that is built from its parts
abbrev pub IsMadeLength : Location → ℕ → Type 0
IsMadeLength v n = (built : Location) × BuiltFrom (record v { spelling = None }) (Ok built)
    × (length built.path ≡ n)

-- JSON without white space between its tokens
abbrev pub IsCompact : List ℕ → Type 0
IsCompact json = json ≡ print (tokens json)

-- the length of such a text
abbrev pub IsCompactLength : ℕ → Type 0
IsCompactLength n = (json : List ℕ) × IsCompact json × (length json ≡ n)

-- the length of the path of the location that a record represents
abbrev pub IsRestoredLength : ℕ → Type 0
IsRestoredLength n = (stored : StoredUrl) × (length (migrated (recorded_location stored)).path ≡ n)

-- the length of the text that the rules have Git fetch from in place of a text
abbrev pub IsRewrittenLength : Rules → List ℕ → ℕ → Type 0
IsRewrittenLength rules t n = (o : Outcome) × IsRewritten rules.fetching t o × (length (outcome_text o) ≡ n)

-- the same by the rules of a configuration
abbrev pub IsFetchedLength : List ℕ → List ℕ → ℕ → Type 0
IsFetchedLength config t n = (entries : List ConfigEntry) × HasEntries config entries
    × IsRewrittenLength (rules_of entries) t n

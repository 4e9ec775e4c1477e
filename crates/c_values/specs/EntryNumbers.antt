-- The entries of a configuration as C gets them: their parts, one after the other, and eight numbers for each.
use Rattle.std.specs.Prelude.{◌≡◌, ℕ, ◌⊎◌, List, [], ◌∷◌, ◌++◌, length, map, Ok, Err}
use Rattle.std.specs.List.{concat, flat_map}
use Rattle.git_rules.specs.Config.{ConfigEntry}
use Rattle.git_rules.specs.ConfigItems.{Item, Place, ReadsItem, ReadsItems, start}
use Rattle.git_rules.specs.declared.config.EntryError.{EntryError}
use Rattle.git_rules.specs.declared.config.EntryError.TheVariants as line
use Rattle.git_modules.specs.ConfigFiles.{HasFileEntries, IsFileError}
use Rattle.git_modules.specs.declared.config_file.FileEntry.{FileEntry}
use Rattle.git_modules.specs.declared.config_file.flaw.FileError.TheVariants as file
use Rattle.git_modules.specs.declared.config_file.flaw.Flaw.{Flaw}
use Rattle.git_modules.specs.declared.config_file.flaw.Flaw.TheVariants as flaw
use Rattle.c_values.specs.declared.rules.config.EntrySizes.{EntrySizes}
use Rattle.c_values.specs.declared.rules.config.Unlisted.{Unlisted}
use Rattle.c_values.specs.declared.rules.config.Unlisted.TheVariants as unlisted
use Rattle.c_values.specs.declared.rules.stops.Stop.{Stop}
use Rattle.c_values.specs.Output.{PutsBoth, is_there, or_nothing}
use Rattle.c_values.specs.SeenLocations.{truth}
use Rattle.c_values.specs.Stops.{no_configuration, no_stop}

-- ---- entries

-- the parts of an entry
abbrev pub entry_texts : ConfigEntry → List (List ℕ)
entry_texts e = e.section ∷ or_nothing e.subsection ∷ e.name ∷ or_nothing e.value ∷ []

-- the numbers of an entry in this line
abbrev pub entry_numbers : ℕ → ConfigEntry → List ℕ
entry_numbers number e = length e.section ∷ length (or_nothing e.subsection) ∷ length e.name
    ∷ length (or_nothing e.value) ∷ e.at ∷ number ∷ truth (is_there e.subsection) ∷ truth (is_there e.value) ∷ []

-- the numbers of an entry of a file
abbrev pub file_texts : FileEntry → List (List ℕ)
file_texts f = entry_texts f.entry

abbrev pub file_numbers : FileEntry → List ℕ
file_numbers f = entry_numbers f.line f.entry

-- parts and numbers of so many entries are copied, and their sizes reported
abbrev pub PutsParts : ℕ → List (List ℕ) → List ℕ → EntrySizes → List ℕ → List ℕ → List ℕ → List ℕ → ℕ → Type 0
PutsParts count texts numbers built old new old_numbers new_numbers code =
    (built ≡ record { entries = count; bytes = length (concat texts) })
    × PutsBoth (concat texts) numbers old new old_numbers new_numbers code

-- the entries of a listing are copied
abbrev pub PutsListing : List ConfigEntry → EntrySizes → List ℕ → List ℕ → List ℕ → List ℕ → ℕ → Type 0
PutsListing found = PutsParts (length found) (flat_map entry_texts found) (flat_map (entry_numbers 0) found)

-- the entries of a file are copied
abbrev pub PutsFile : List FileEntry → EntrySizes → List ℕ → List ℕ → List ℕ → List ℕ → ℕ → Type 0
PutsFile found = PutsParts (length found) (flat_map file_texts found) (flat_map file_numbers found)

-- ---- listings

-- the items from a place on, up to another place
abbrev pub ReadsUpTo : Place → List Item → Place → Type 0
ReadsUpTo from [] next = from ≡ next
ReadsUpTo from (item ∷ items) next = (place : Place) × ReadsItem from item place × ReadsUpTo place items next

-- the text is a listing of exactly these entries
abbrev pub IsListingOf : List ℕ → List ConfigEntry → Type 0
IsListingOf text found = ReadsItems (start text) (map Ok found)

-- the first item of the text that is not an entry is this one
abbrev pub IsFirstFlaw : List ℕ → EntryError → Type 0
IsFirstFlaw text error = (found : List ConfigEntry) × (next : Place)
    × ReadsUpTo (start text) (map Ok found ++ Err error ∷ []) next

-- why a text is not read as a listing; memory may be refused to any
abbrev pub Unlists : List ℕ → Unlisted → Type 0
Unlists text unlisted.Memory = Unit {0}
Unlists text (unlisted.Flawed error) = IsFirstFlaw text error

-- the report about an item that is not an entry
abbrev pub flaw_stop : EntryError → Stop
flaw_stop (line.NoKey place) = record { at = place; line = 0; flaw = 12 }
flaw_stop (line.NoEnd place) = record { at = place; line = 0; flaw = 13 }

-- the entries of a listing are reported, or the first place at which the text is not a listing
abbrev pub ReportsListing : List ℕ → EntrySizes → List ℕ → List ℕ → List ℕ → List ℕ → Stop → ℕ → Type 0
ReportsListing text built old new old_numbers new_numbers stop code =
    ((error : EntryError) × IsFirstFlaw text error × (stop ≡ flaw_stop error) × (code ≡ no_configuration))
    ⊎ ((found : List ConfigEntry) × IsListingOf text found × (stop ≡ no_stop)
    × PutsListing found built old new old_numbers new_numbers code)

-- ---- files

-- the number of a flaw of a file: its place in the order of the header
abbrev pub file_flaw_number : Flaw → ℕ
file_flaw_number flaw.PartialMark = 1
file_flaw_number flaw.NoStart = 2
file_flaw_number flaw.NoSection = 3
file_flaw_number flaw.BadSection = 4
file_flaw_number flaw.NoQuote = 5
file_flaw_number flaw.OpenSubsection = 6
file_flaw_number flaw.OpenHeader = 7
file_flaw_number flaw.NoEquals = 8
file_flaw_number flaw.BadEscape = 9
file_flaw_number flaw.OpenQuote = 10
file_flaw_number flaw.ZeroByte = 11

-- the text of a file is refused for this flaw, at this place and line
abbrev pub IsFileFlaw : List ℕ → Flaw → ℕ → ℕ → Type 0
IsFileFlaw text why place number = IsFileError text (length text) (file.Refused why place number)

-- the entries of a file are reported, or the first place at which the text is not a configuration file
abbrev pub ReportsFile : List ℕ → EntrySizes → List ℕ → List ℕ → List ℕ → List ℕ → Stop → ℕ → Type 0
ReportsFile text built old new old_numbers new_numbers stop code =
    ((why : Flaw) × (place : ℕ) × (number : ℕ) × IsFileFlaw text why place number
    × (stop ≡ record { at = place; line = number; flaw = file_flaw_number why }) × (code ≡ no_configuration))
    ⊎ ((found : List FileEntry) × HasFileEntries text found × (stop ≡ no_stop)
    × PutsFile found built old new old_numbers new_numbers code)

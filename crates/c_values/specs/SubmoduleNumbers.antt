-- Submodules for C: a resolved URL, the refused part of an entry, and the list of a file.
use Rattle.std.specs.Prelude.{◌≡◌, ◌≢◌, ℕ, ◌-◌, ◌^◌, List, [], ◌∷◌, length, map, Option, Some, None, Result, Ok, Err, MatchOption}
use Rattle.std.specs.List.{concat, flat_map}
use Rattle.git_rules.specs.Config.{ConfigEntry}
use Rattle.git_modules.specs.Resolve.{Resolution, resolution, resolved_text}
use Rattle.git_modules.specs.ResolveRoots.{climbs}
use Rattle.git_modules.specs.ResolveSteps.{is_relative}
use Rattle.git_modules.specs.declared.resolve.ResolveError.{ResolveError}
use Rattle.git_modules.specs.declared.resolve.ResolveError.TheVariants as unresolved
use Rattle.git_modules.specs.SubmoduleChecks.{IsRefused}
use Rattle.git_modules.specs.declared.submodules.refusal.Refused.{Refused}
use Rattle.git_modules.specs.declared.submodules.refusal.Refused.TheVariants as refused
use Rattle.git_modules.specs.Submodules.{GitSubmodule, UsedValue}
use Rattle.c_values.specs.declared.rules.submodules.CheckNumbers.{CheckNumbers}
use Rattle.c_values.specs.declared.rules.submodules.ResolvedNumbers.{ResolvedNumbers}
use Rattle.c_values.specs.declared.rules.submodules.SubmoduleSizes.{SubmoduleSizes}
use Rattle.c_values.specs.Answers.{reported_length}
use Rattle.c_values.specs.Codes.{ok}
use Rattle.c_values.specs.Output.{Puts, PutsBoth}

-- ---- resolved URLs

-- the number of the reason why Git resolves no URL
abbrev pub unresolved_number : ResolveError → ℕ
unresolved_number unresolved.EmptyParent = 1
unresolved_number unresolved.NothingLeft = 2

-- the numbers of a URL that is resolved to a text of this length, or to none for a reason
abbrev pub resolved_numbers : List ℕ → List ℕ → ℕ → ℕ → ResolvedNumbers
resolved_numbers parent url number size = record {
  why = number;
  is_relative = is_relative url;
  climbs = climbs parent url;
  len = size;
}

-- a resolved URL is copied, or nothing
abbrev pub PutsResolution : List ℕ → List ℕ → Result Resolution ResolveError → ResolvedNumbers → List ℕ → List ℕ → ℕ → Type 0
PutsResolution parent url (Ok r) built old new code =
    (built ≡ resolved_numbers parent url 0 (reported_length (length (resolved_text r))))
    × Puts (resolved_text r) old new code
PutsResolution parent url (Err error) built old new code =
    (built ≡ resolved_numbers parent url (unresolved_number error) 0) × (new ≡ old) × (code ≡ ok)

-- the resolved URL of a submodule is reported, or why there is none
abbrev pub ReportsResolution : List ℕ → List ℕ → ResolvedNumbers → List ℕ → List ℕ → ℕ → Type 0
ReportsResolution parent url built old new code = PutsResolution parent url (resolution parent url) built old new code

-- ---- entries

-- the number of the refused part, or 0
abbrev pub refused_number : Option Refused → ℕ
refused_number None = 0
refused_number (Some refused.Name) = 1
refused_number (Some refused.Url) = 2
refused_number (Some refused.Path) = 3
refused_number (Some refused.Update) = 4

-- the name of an entry is refused, or it is not
abbrev pub ChecksName : ConfigEntry → Option Refused → Type 0
ChecksName e name = MatchOption name (¬ IsRefused e refused.Name)
    (λ reason. (reason ≡ refused.Name) × IsRefused e reason)

-- the value of an entry is refused for another reason, or it is not
abbrev pub ChecksValue : ConfigEntry → Option Refused → Type 0
ChecksValue e value = MatchOption value ((reason : Refused) → reason ≢ refused.Name → ¬ IsRefused e reason)
    (λ reason. (reason ≢ refused.Name) × IsRefused e reason)

-- the parts of an entry that `git fsck` refuses are reported
abbrev pub ChecksEntry : ConfigEntry → CheckNumbers → ℕ → Type 0
ChecksEntry e built code = (name : Option Refused) × (value : Option Refused) × ChecksName e name × ChecksValue e value
    × (built ≡ record { name = refused_number name; value = refused_number value }) × (code ≡ ok)

-- ---- lists

-- the index of the entry with a value, or the largest number
abbrev pub index_or : Option UsedValue → ℕ
index_or None = 2 ^ 64 - 1
index_or (Some used) = used.index

-- the numbers of a submodule
abbrev pub submodule_numbers : GitSubmodule → List ℕ
submodule_numbers s = length s.name ∷ index_or s.path ∷ index_or s.url ∷ index_or s.update ∷ index_or s.branch ∷ []

-- the bytes of the names, one after the other
abbrev pub submodule_names : List GitSubmodule → List ℕ
submodule_names found = concat (map (λ s. s.name) found)

-- submodules are copied
abbrev pub PutsSubmodules : List GitSubmodule → SubmoduleSizes → List ℕ → List ℕ → List ℕ → List ℕ → ℕ → Type 0
PutsSubmodules found built old new old_numbers new_numbers code =
    (built ≡ record { submodules = length found; bytes = length (submodule_names found) })
    × PutsBoth (submodule_names found) (flat_map submodule_numbers found) old new old_numbers new_numbers code

-- The entries of `credential.*` that apply to a request, in the order in which Git reads them.
use Rattle.std.specs.Prelude.{◌≡◌, ℕ, Bool, true, false, not, ◌&&◌, ◌⊎◌, ◌↔◌, IsTrue, List, [], ◌∷◌, ◌++◌, codes, length, Option, Some, None, if◌then◌else◌}
use Rattle.git_reads.specs.Credentials.{CredentialReading}
use Rattle.git_rules.specs.Config.{ConfigEntry, has_name, is_of_section}
use Rattle.git_rules.specs.Normal.{NormalPlace, IsNormalOf}
use Rattle.git_rules.specs.Patterns.{Matches}
use Rattle.git_rules.specs.CredentialUrls.{credential_url}
use Rattle.git_rules.specs.PartialUrls.{FitsPartly}

-- the settings that Git uses: the indices of the helpers, the user, and whether helpers get the path of an HTTP URL
pub record CredentialUse : Type 0 where
  pub helpers : List ℕ
  pub user : Option (List ℕ)
  pub use_http_path : Bool

-- ---- one entry

-- the only normal form of a text, or that it has none
abbrev pub IsFormOf : Bool → List ℕ → Option NormalPlace → Type 0
IsFormOf globs t None = (n : NormalPlace) → ¬ IsNormalOf globs t n
IsFormOf globs t (Some n) = IsNormalOf globs t n

-- the pattern matches the place; false if there is no place
abbrev pub MatchesForm : NormalPlace → Option NormalPlace → Type 0
MatchesForm pattern None = ⊥
MatchesForm pattern (Some place) = Matches pattern place

-- the URL is a pattern that matches the place
abbrev pub MatchesUrl : List ℕ → Option NormalPlace → Type 0
MatchesUrl url place = (pattern : NormalPlace) × IsNormalOf true url pattern × MatchesForm pattern place

-- the URL has no normal form, or it has one, which matches the place or not
abbrev pub DecidesUrl : List ℕ → Option NormalPlace → Option Bool → Type 0
DecidesUrl url place None = IsFormOf true url None
DecidesUrl url place (Some matches) = (pattern : NormalPlace) × IsNormalOf true url pattern
    × (IsTrue matches ↔ MatchesForm pattern place)

-- the URL is a pattern that matches the URL that Git writes for the request
abbrev pub FitsPattern : List ℕ → CredentialReading → Type 0
FitsPattern url r = (place : Option NormalPlace) × IsFormOf false (credential_url r) place
    × MatchesUrl url place

-- a subsection fits the request and the user that Git uses: it is missing, or matches the request as a pattern, or
-- has no normal form and the request has the parts that Git reads in it
abbrev pub FitsSubsection : Option (List ℕ) → CredentialReading → Option (List ℕ) → Type 0
FitsSubsection None r user = Unit {0}
FitsSubsection (Some url) r user = FitsPattern url r ⊎ (IsFormOf true url None × FitsPartly url r user)

-- an entry of `credential.*` applies to the request, with the user that Git uses
abbrev pub AppliesTo : CredentialReading → Option (List ℕ) → ConfigEntry → Type 0
AppliesTo r user e = (is_of_section (codes "credential") e ≡ true) × FitsSubsection e.subsection r user

-- ---- the user

-- there is a user that isn't empty
abbrev pub has_user : Option (List ℕ) → Bool
has_user None = false
has_user (Some []) = false
has_user (Some (b ∷ bs)) = true

-- the user after an entry that applies: the value of a `username`, unless the request itself has a user
abbrev pub user_after : Option (List ℕ) → ConfigEntry → Option (List ℕ) → Option (List ℕ)
user_after own e user = if has_name (codes "username") e && not (has_user own) then e.value else user

-- the user before and after an entry, which may apply
abbrev pub ChangesUser : CredentialReading → ConfigEntry → Option (List ℕ) → Option (List ℕ) → Type 0
ChangesUser r e user next = (AppliesTo r user e × (next ≡ user_after r.user e user))
    ⊎ ((¬ AppliesTo r user e) × (next ≡ user))

-- the user before and after a list of entries
abbrev pub UserThrough : CredentialReading → List ConfigEntry → Option (List ℕ) → Option (List ℕ) → Type 0
UserThrough r [] user last = last ≡ user
UserThrough r (e ∷ rest) user last = (next : Option (List ℕ)) × ChangesUser r e user next
    × UserThrough r rest next last

-- ---- entries in a list

-- the entry at this index applies, with the user that Git uses after the entries before it
pub record AppliesAt (r : CredentialReading) (entries : List ConfigEntry) (i : ℕ)
    (e : ConfigEntry) : Type 0 where
  pub before : List ConfigEntry
  pub others : List ConfigEntry
  pub user : Option (List ℕ)
  pub joined : entries ≡ before ++ e ∷ others
  pub index : length before ≡ i
  pub through : UserThrough r before r.user user
  pub applies : AppliesTo r user e

-- the entry at this index applies and has this name
abbrev pub SetsAt : List ℕ → CredentialReading → List ConfigEntry → ℕ → ConfigEntry → Type 0
SetsAt name r entries i e = AppliesAt r entries i e × (has_name name e ≡ true)

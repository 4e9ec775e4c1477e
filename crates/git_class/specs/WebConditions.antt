-- The conditions of the class of HTTP, one by one: those that a location doesn't meet, and the first of them.
use Rattle.std.specs.Prelude.{◌≡◌, ℕ, ◌<◌, true, false, List, [], ◌∷◌, ◌++◌}
use Rattle.std.specs.List.{list_all}
use Rattle.percent_encoding.specs.Percent.{percent_encode}
use Rattle.git_syntax.specs.Location.{Location}
use Rattle.git_syntax.specs.Bytes.{number_sign, percent_sign, slash, colon, question_mark, left_bracket, Lacks, FreeOf, begins_with}
use Rattle.git_syntax.specs.Escapes.{password_set}
use Rattle.git_class.specs.declared.web_conditions.WebCondition.{WebCondition}
use Rattle.git_class.specs.declared.web_conditions.WebCondition.TheVariants as condition
use Rattle.git_location.specs.Text.{canonical_path}
use Rattle.git_location.specs.Settled.{begins_with_slashes, IsSettled, HasPart}
use Rattle.git_class.specs.WebClass.{is_control, is_plain_host_byte, is_uri_byte, HasDotSegment, HasUnambiguousHost, IsDecodedWhole}

-- the location doesn't meet the condition
abbrev pub IsUnmet : WebCondition → Location → Type 0
IsUnmet condition.Settled v = ¬ IsSettled v
IsUnmet condition.NoZone v = HasPart v.host (λ h. (begins_with left_bracket h ≡ true) × ¬ FreeOf percent_sign h)
IsUnmet condition.NoHostColon v = HasPart v.host (λ h. (front : List ℕ) × (h ≡ front ++ colon ∷ []))
IsUnmet condition.HostBytes v = HasPart v.host
    (λ h. (begins_with left_bracket h ≡ false) × (list_all is_plain_host_byte h ≡ false))
IsUnmet condition.LastLabel v = ¬ HasUnambiguousHost v
IsUnmet condition.UserControl v = HasPart v.user (λ u. ¬ Lacks is_control u)
IsUnmet condition.UserColon v = HasPart v.user (λ u. ¬ FreeOf colon u)
IsUnmet condition.PasswordControl v = HasPart v.password (λ p. ¬ Lacks is_control p)
IsUnmet condition.PasswordColon v = HasPart v.password (λ p. ¬ IsDecodedWhole (percent_encode password_set p))
IsUnmet condition.PathStart v = begins_with slash v.path ≡ false
IsUnmet condition.PathSlashes v = begins_with_slashes v.path ≡ true
IsUnmet condition.PathControl v = ¬ Lacks is_control v.path
IsUnmet condition.NoFragment v = ¬ FreeOf number_sign v.path
IsUnmet condition.NoDotSegment v = HasDotSegment v.path
IsUnmet condition.NoEmptyQuery v = (front : List ℕ) × (v.path ≡ front ++ question_mark ∷ [])
IsUnmet condition.PathBytes v = list_all is_uri_byte (canonical_path v) ≡ false
IsUnmet condition.PathColon v = ¬ IsDecodedWhole (canonical_path v)

-- the index of the condition in the order of declaration
abbrev pub place : WebCondition → ℕ
place condition.Settled = 0
place condition.NoZone = 1
place condition.NoHostColon = 2
place condition.HostBytes = 3
place condition.LastLabel = 4
place condition.UserControl = 5
place condition.UserColon = 6
place condition.PasswordControl = 7
place condition.PasswordColon = 8
place condition.PathStart = 9
place condition.PathSlashes = 10
place condition.PathControl = 11
place condition.NoFragment = 12
place condition.NoDotSegment = 13
place condition.NoEmptyQuery = 14
place condition.PathBytes = 15
place condition.PathColon = 16

-- the location meets each condition that comes before this one
abbrev pub MeetsBefore : WebCondition → Location → Type 0
MeetsBefore this v = (other : WebCondition) → place other < place this → ¬ IsUnmet other v

-- the location doesn't meet the condition, and meets each one that comes before it
abbrev pub IsFirstUnmet : WebCondition → Location → Type 0
IsFirstUnmet this v = IsUnmet this v × MeetsBefore this v

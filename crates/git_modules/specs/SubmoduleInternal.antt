-- Definitions that only the proofs of this crate use.
use Rattle.std.specs.Prelude.{◌≡◌, ℕ, Bool, true, false, not, ◌&&◌, ◌||◌, ◌==◌, List, ◌∷◌, ◌++◌, length, Option, Some, None, MatchOption, bytes_eq, is_some, nat_lt, option_map, if◌then◌else◌}
use Rattle.std.specs.Borrow.{Bor}
use Rattle.std.specs.BTreeMap.{BTreeMap, get_by}
use Rattle.std.specs.Cmp.Lexicographic.{slice_cmp}
use Rattle.std.specs.Ordering.{nat_cmp}
use Rattle.git_syntax.specs.Bytes.{colon, FreeOf, begins_by, is_any_slash}
use Rattle.git_reads.specs.Credentials.{CredentialCut, CredentialDecodes, CredentialReading, ReadsPieces}
use Rattle.git_rules.specs.Config.{ConfigEntry}
use Rattle.git_modules.specs.declared.submodules.Used.{Used}
use Rattle.git_modules.specs.Submodules.{GitSubmodule, UsedValue, used_by}
use Rattle.git_modules.specs.SubmoduleView.{used_value}
use Rattle.git_modules.specs.SubmoduleDefects.{path_count}
use Rattle.git_modules.specs.SubmoduleUrls.{IsForCurl, has_feed, part_has_feed, parts_have_feed, is_step, is_step_up}

-- `feed` is whether the piece decodes to a text with a line feed
abbrev pub TestsFeed : List ℕ → Bool → Type 0
TestsFeed piece feed = (decoded : List ℕ) × CredentialDecodes piece decoded × (feed ≡ has_feed decoded)

-- the text before the `@` is a user, or a user and a password; `feed` is whether one of them decodes to a text with
-- a line feed
pub data TestsInformation (information : List ℕ) (feed : Bool) : Type 0 where
  user_alone : FreeOf colon information → TestsFeed information feed → TestsInformation information feed
  with_password : (u w : List ℕ) (first second : Bool) → FreeOf colon u → information ≡ u ++ colon ∷ w
      → TestsFeed u first → TestsFeed w second → feed ≡ (first || second)
      → TestsInformation information feed

-- `taken` is whether the decoded host isn't empty and has no line feed
abbrev pub TestsHost : List ℕ → Bool → Type 0
TestsHost named taken = (host : List ℕ) × CredentialDecodes named host
    × (taken ≡ (not (length host == 0) && not (has_feed host)))

-- `taken` is whether the decoded host of the authority isn't empty, and no part has a line feed
pub record TestsAuthority (authority : List ℕ) (taken : Bool) : Type 0 where
  pub user : Option (List ℕ)
  pub password : Option (List ℕ)
  pub named : List ℕ
  pub host : List ℕ
  pub cut : CredentialCut authority user password named
  pub decodes : CredentialDecodes named host
  pub tests : taken ≡ (not (length host == 0) && not (has_feed host)
      && not (part_has_feed user || part_has_feed password))

-- `taken` is whether the parts of the pieces of a text have a host that isn't empty, and no line feed
pub record TestsPieces (protocol authority suffix : List ℕ) (taken : Bool) : Type 0 where
  pub parts : CredentialReading
  pub same : parts.protocol ≡ protocol
  pub reads : ReadsPieces authority suffix parts
  pub tests : taken ≡ (not (parts_have_feed parts) && not (length parts.host == 0))

-- the text that curl would get, or none if the URL isn't for curl
abbrev pub FindsCurl : List ℕ → Option (Bor (List ℕ)) → Type 0
FindsCurl t r = MatchOption r ((text : List ℕ) → ¬ IsForCurl t text) (λ it. IsForCurl t it.now)

-- the step that the text begins with, and the text after it, or none if it begins with none
abbrev pub FindsStep : List ℕ → Option (Bool × Bor (List ℕ)) → Type 0
FindsStep t r = MatchOption r ((step rest : List ℕ) → is_step step ≡ true → ¬ (t ≡ step ++ rest))
    (λ it. (step : List ℕ) × (is_step step ≡ true) × (it.0 ≡ is_step_up step) × (t ≡ step ++ it.1.now))

-- the text after a leading separator, or none if it has none
abbrev pub FindsSeparator : List ℕ → Option (Bor (List ℕ)) → Type 0
FindsSeparator t r = MatchOption r (begins_by is_any_slash t ≡ false)
    (λ rest. (x : ℕ) × (is_any_slash x ≡ true) × (t ≡ x ∷ rest.now))

-- ---- values

-- the recorded value for a name in a map, if there is one
abbrev pub noted_use : BTreeMap (Bor (List ℕ)) Used → List ℕ → Option UsedValue
noted_use uses name = option_map used_value (get_by (λ key. slice_cmp nat_cmp name key.now) uses)

-- the map has the values that Git uses by this key
abbrev pub HasUses : List ℕ → Bool → List ConfigEntry → BTreeMap (Bor (List ℕ)) Used → Type 0
HasUses key options entries uses = (name : List ℕ) → noted_use uses name ≡ used_by key options entries name

-- `after` has this value for the name, and the previous one for every other name
abbrev pub NotesUse : BTreeMap (Bor (List ℕ)) Used → List ℕ → UsedValue
    → BTreeMap (Bor (List ℕ)) Used → Type 0
NotesUse uses name used after = (other : List ℕ)
    → noted_use after other ≡ (if bytes_eq name other then Some used else noted_use uses other)

-- a map has the name
abbrev pub is_noted : BTreeMap (Bor (List ℕ)) (Unit {0}) → List ℕ → Bool
is_noted seen name = is_some (get_by (λ key. slice_cmp nat_cmp name key.now) seen)

-- `after` has this name, and the previous ones
abbrev pub NotesName : BTreeMap (Bor (List ℕ)) (Unit {0}) → List ℕ
    → BTreeMap (Bor (List ℕ)) (Unit {0}) → Type 0
NotesName seen name after = (other : List ℕ)
    → is_noted after other ≡ (bytes_eq name other || is_noted seen other)

-- ---- paths

-- the record for a path in a map, if there is one: whether several submodules have the path
abbrev pub noted_path : BTreeMap (Bor (List ℕ)) Bool → List ℕ → Option Bool
noted_path paths p = get_by (λ key. slice_cmp nat_cmp p key.now) paths

-- the record for a path that this many submodules have
abbrev pub count_note : ℕ → Option Bool
count_note n = if n == 0 then None else Some (nat_lt 1 n)

-- the map has the paths of these submodules
abbrev pub HasPaths : List GitSubmodule → BTreeMap (Bor (List ℕ)) Bool → Type 0
HasPaths all paths = (p : List ℕ) → noted_path paths p ≡ count_note (path_count p all)

-- `after` has this path, as that of several submodules if it was recorded before, and the previous record for every
-- other path
abbrev pub NotesPath : BTreeMap (Bor (List ℕ)) Bool → List ℕ → BTreeMap (Bor (List ℕ)) Bool → Type 0
NotesPath paths p after = (other : List ℕ)
    → noted_path after other
    ≡ (if bytes_eq p other then Some (is_some (noted_path paths p)) else noted_path paths other)

-- Where the credential of an entry of a configuration may be sent.
use Rattle.std.specs.Prelude.{◌≡◌, ℕ, ◌+◌, ◌*◌, ◌≤◌, ◌⊎◌, true, false, List, ◌∷◌, ◌++◌, length, Contains, Some, None, Ok, codes}
use Rattle.gix_url.specs.Bytes.{FreeOf}
use Rattle.gix_url.specs.GitClass.{AgreesWithGit}
use Rattle.gix_url.specs.Settled.{IsWeb}
use Rattle.gix_url.specs.Text.{text}
use Rattle.gix_url.specs.Location.{Location}
use Rattle.git_rules.specs.Config.{ConfigEntry}
use Rattle.git_rules.specs.Normal.{asterisk, NormalPlace, IsNormalOf}
use Rattle.git_rules.specs.PatternLaws.{ReachesOwn}
use Rattle.git_rules.specs.Settings.{AreSettings}

-- the entry is for a URL; and if the host of that has no `*`, Git's credential code and a reader of URIs
-- reach the URL's own scheme, host and port in the text of the location
pub record GoesToOwn (v : Location) (e : ConfigEntry) : Type 0 where
  pub url : List ℕ
  pub named : e.subsection ≡ Some url
  pub pattern : NormalPlace
  pub form : IsNormalOf true url pattern
  pub reaches : FreeOf asterisk pattern.host → (t : List ℕ) → text v ≡ Ok t → ReachesOwn t pattern

-- the entry at an index is for all places, or goes to its own
pub record IsOwnAt (v : Location) (entries : List ConfigEntry) (i : ℕ) : Type 0 where
  pub before : List ConfigEntry
  pub entry : ConfigEntry
  pub others : List ConfigEntry
  pub joined : entries ≡ before ++ entry ∷ others
  pub index : length before ≡ i
  pub own : (entry.subsection ≡ None) ⊎ GoesToOwn v entry

-- each of these indices is of such an entry
abbrev pub AreOwn : Location → List ConfigEntry → List ℕ → Type 0
AreOwn v entries found = (i : ℕ) → Contains found i → IsOwnAt v entries i

-- of a location of HTTP in whose text all read the same place, and with a buffer that is long enough for the normal form of
-- the text, these are the indices of the entries whose headers Git sends
abbrev pub AreSent : Location → ℕ → List ConfigEntry → List ℕ → Type 0
AreSent v buffer_len entries found = (t : List ℕ) (place : NormalPlace) → IsWeb v → AgreesWithGit v
    → text v ≡ Ok t → IsNormalOf false t place → 4 * length t + 1 ≤ buffer_len
    → AreSettings (codes "extraHeader") (Some place) entries found

-- The laws on a remote: a configuration determines it, and it agrees with `Rewrites` for one URL.
use Rattle.std.specs.Prelude.{◌≡◌, ℕ, true, false, List, [], ◌∷◌}
use Rattle.git_rules.specs.Config.{ConfigEntry}
use Rattle.git_rules.specs.Rewrites.{IsRewrittenToPush, Outcome, Rules}
use Rattle.git_rules.specs.Remotes.{ArePushUrls, AreUrls, is_its_own_url, pushurl_key, url_key, values_of}

-- rules, a remote and entries determine its URLs
abbrev pub OneListOfUrls : Type 0
OneListOfUrls = (rules : Rules) (remote : List ℕ) (entries : List ConfigEntry) (a b : List Outcome)
    → AreUrls rules remote entries a → AreUrls rules remote entries b → a ≡ b

-- rules, a remote and entries determine the URLs that Git pushes to
abbrev pub OneListOfPushUrls : Type 0
OneListOfPushUrls = (rules : Rules) (remote : List ℕ) (entries : List ConfigEntry) (a b : List Outcome)
    → ArePushUrls rules remote entries a → ArePushUrls rules remote entries b → a ≡ b

-- the remote has only this URL, and no push URL
abbrev pub HasOneUrl : List ℕ → List ConfigEntry → List ℕ → Type 0
HasOneUrl remote entries url = (values_of remote url_key entries ≡ url ∷ [])
    × (values_of remote pushurl_key entries ≡ [])

-- if a remote has one URL and no push URL, Git pushes to that URL, rewritten
abbrev pub OneUrlIsPushed : Type 0
OneUrlIsPushed = (rules : Rules) (remote : List ℕ) (entries : List ConfigEntry) (url : List ℕ) (o : Outcome)
    → HasOneUrl remote entries url → IsRewrittenToPush rules false url o → ArePushUrls rules remote entries (o ∷ [])

-- the remote has a URL, and only this push URL
abbrev pub HasOnePushUrl : List ℕ → List ConfigEntry → List ℕ → Type 0
HasOnePushUrl remote entries url = (is_its_own_url remote entries ≡ false)
    × (values_of remote pushurl_key entries ≡ url ∷ [])

-- if a remote has one push URL, Git pushes to that URL, rewritten
abbrev pub OnePushUrlIsPushed : Type 0
OnePushUrlIsPushed = (rules : Rules) (remote : List ℕ) (entries : List ConfigEntry) (url : List ℕ) (o : Outcome)
    → HasOnePushUrl remote entries url → IsRewrittenToPush rules true url o
    → ArePushUrls rules remote entries (o ∷ [])

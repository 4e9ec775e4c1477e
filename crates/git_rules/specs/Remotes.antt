-- The settings that Git uses for a remote.
use Rattle.std.specs.Prelude.{◌≡◌, ℕ, ◌==◌, ◌⊎◌, Bool, true, false, not, ◌&&◌, ◌||◌, if◌then◌else◌, bytes_eq, codes, List, [], ◌∷◌, ◌++◌, All, filter, filter_map, slice_get, Option, Some, None, is_none, is_some}
use Rattle.std.specs.List.{last_or}
use Rattle.git_syntax.specs.Bytes.{dot, slash}
use Rattle.git_rules.specs.Config.{ConfigEntry, has_name, is_of_section, sets}
use Rattle.git_rules.specs.Rewrites.{Outcome, Rule, Rules, IsRewritten}

-- a remote as plain values: its rewritten URLs, those that Git pushes to, and the values of four names
pub record GitRemote : Type 0 where
  pub urls : List Outcome
  pub push_urls : List Outcome
  pub vcs : Option (List ℕ)
  pub proxy : Option (List ℕ)
  pub uploadpack : Option (List ℕ)
  pub receivepack : Option (List ℕ)

-- ---- names

-- the section of remotes
abbrev pub remote_section : List ℕ
remote_section = codes "remote"

-- the name of URLs
abbrev pub url_key : List ℕ
url_key = codes "url"

-- the name of push URLs
abbrev pub pushurl_key : List ℕ
pushurl_key = codes "pushurl"

-- the name of a foreign helper
abbrev pub vcs_key : List ℕ
vcs_key = codes "vcs"

-- the name of a proxy
abbrev pub proxy_key : List ℕ
proxy_key = codes "proxy"

-- the name of the program that serves fetches
abbrev pub uploadpack_key : List ℕ
uploadpack_key = codes "uploadpack"

-- the name of the program that receives pushes
abbrev pub receivepack_key : List ℕ
receivepack_key = codes "receivepack"

-- ---- values

-- the subsection of an entry with this name denotes the remote. Git ignores one that begins with `/`. For an empty
-- one it takes the rest of the key from there on, which is a dot and the name
abbrev pub is_subsection_of : List ℕ → List ℕ → List ℕ → Bool
is_subsection_of remote key [] = bytes_eq remote (dot ∷ key)
is_subsection_of remote key (b ∷ bs) = not (b == slash) && bytes_eq (b ∷ bs) remote

-- the optional subsection of an entry with this name denotes the remote; a missing one denotes none
abbrev pub names_remote : List ℕ → List ℕ → Option (List ℕ) → Bool
names_remote remote key None = false
names_remote remote key (Some subsection) = is_subsection_of remote key subsection

-- the value that an entry sets for the remote and this name, if any
abbrev pub value_for : List ℕ → List ℕ → ConfigEntry → Option (List ℕ)
value_for remote key e =
    if names_remote remote key e.subsection && sets remote_section key e then e.value else None

-- the values that entries set for the remote and this name, in their order
abbrev pub values_of : List ℕ → List ℕ → List ConfigEntry → List (List ℕ)
values_of remote key entries = filter_map (value_for remote key) entries

-- the first of the values, if there is one
abbrev pub first_of : List (List ℕ) → Option (List ℕ)
first_of values = slice_get values 0

-- the last of the values, if there is one
abbrev pub last_of : List (List ℕ) → Option (List ℕ)
last_of values = last_or None values

-- no entry sets a value for the remote and this name
abbrev pub has_none : List ℕ → List ℕ → List ConfigEntry → Bool
has_none remote key entries = is_none (first_of (values_of remote key entries))

-- ---- URLs

-- the remote's name is its only URL, since it has neither a URL nor a foreign helper
abbrev pub is_its_own_url : List ℕ → List ConfigEntry → Bool
is_its_own_url remote entries = has_none remote url_key entries && has_none remote vcs_key entries

-- the configured URLs of a remote: those of its entries, or its name
abbrev pub configured_urls : List ℕ → List ConfigEntry → List (List ℕ)
configured_urls remote entries =
    if is_its_own_url remote entries then remote ∷ [] else values_of remote url_key entries

-- the outcomes for the texts by the rules, in their order
abbrev pub AreRewritten : List Rule → List (List ℕ) → List Outcome → Type 0
AreRewritten rules [] [] = Unit {0}
AreRewritten rules [] (o ∷ outcomes) = ⊥
AreRewritten rules (t ∷ texts) [] = ⊥
AreRewritten rules (t ∷ texts) (o ∷ outcomes) = IsRewritten rules t o × AreRewritten rules texts outcomes

-- the outcomes for those of the texts to which a rule applies: they have a base
abbrev pub AreRuled : List Rule → List (List ℕ) → List Outcome → Type 0
AreRuled rules texts found = (outcomes : List Outcome)
    × AreRewritten rules texts outcomes × (found ≡ filter (λ o. is_some o.base) outcomes)

-- appends the outcome for one more text, if a rule applies to it
abbrev pub AddsRuled : List Rule → List ℕ → List Outcome → List Outcome → Type 0
AddsRuled rules text old new = (o : Outcome) × IsRewritten rules text o
    × (new ≡ old ++ filter (λ p. is_some p.base) (o ∷ []))

-- these are the URLs that Git fetches from, the first of which it uses: all are rewritten by the rules for fetching
abbrev pub AreUrls : Rules → List ℕ → List ConfigEntry → List Outcome → Type 0
AreUrls rules remote entries found = AreRewritten rules.fetching (configured_urls remote entries) found

-- the URLs to which Git tries to apply the rules for pushing: all, unless there are push URLs; the name of the
-- remote even then
abbrev pub tried_urls : List ℕ → List ConfigEntry → List (List ℕ)
tried_urls remote entries = if is_its_own_url remote entries || has_none remote pushurl_key entries
    then configured_urls remote entries else []

-- these are the push URLs: those of its entries, rewritten by the rules for fetching, and then the URLs to which a
-- rule for pushing applies, rewritten by the rules for pushing
pub record HasPushUrls (rules : Rules) (remote : List ℕ) (entries : List ConfigEntry) (found : List Outcome) : Type 0 where
  pub configured : List Outcome
  pub ruled : List Outcome
  pub rewritten : AreRewritten rules.fetching (values_of remote pushurl_key entries) configured
  pub tried : AreRuled rules.pushing (tried_urls remote entries) ruled
  pub joined : found ≡ configured ++ ruled

-- these are the URLs that Git pushes to: the push URLs, or if there are none all URLs that it would fetch from
abbrev pub ArePushUrls : Rules → List ℕ → List ConfigEntry → List Outcome → Type 0
ArePushUrls rules remote entries found = (HasPushUrls rules remote entries found × (¬ (found ≡ [])))
    ⊎ (HasPushUrls rules remote entries [] × AreUrls rules remote entries found)

-- ---- entries without a value

-- Git takes the subsection for a remote: it is present, and doesn't begin with `/`
abbrev pub is_remote : Option (List ℕ) → Bool
is_remote None = false
is_remote (Some []) = true
is_remote (Some (b ∷ bs)) = not (b == slash)

-- the entry has one of the six names
abbrev pub has_read_name : ConfigEntry → Bool
has_read_name e = has_name url_key e || (has_name pushurl_key e || (has_name vcs_key e
    || (has_name proxy_key e || (has_name uploadpack_key e || has_name receivepack_key e))))

-- the entry sets one of the six names for a remote without a value: Git stops there
abbrev pub lacks_value : ConfigEntry → Bool
lacks_value e = is_none e.value && (is_remote e.subsection && (is_of_section remote_section e && has_read_name e))

-- no entry that sets one of a remote's six names lacks a value
abbrev pub HaveValues : List ConfigEntry → Type 0
HaveValues entries = All (λ e. lacks_value e ≡ false) entries

-- the first entry that sets one of a remote's six names without a value begins at this byte
pub record LacksFirst (entries : List ConfigEntry) (at : ℕ) : Type 0 where
  pub before : List ConfigEntry
  pub entry : ConfigEntry
  pub others : List ConfigEntry
  pub joined : entries ≡ before ++ entry ∷ others
  pub values : HaveValues before
  pub lacks : lacks_value entry ≡ true
  pub begins : at ≡ entry.at

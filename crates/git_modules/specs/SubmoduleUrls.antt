-- URLs of submodules that Git's fsck refuses. No proof shows that Git follows this definition:
-- `tests/witnesses/test_rules.py` compares them.
use Rattle.std.specs.Prelude.{◌≡◌, ℕ, ◌<◌, ◌⊎◌, Bool, true, false, ◌||◌, ◌==◌, bytes_eq, codes, List, ◌++◌, length, Option, Some, None}
use Rattle.std.specs.List.{concat, list_any, list_all}
use Rattle.git_syntax.specs.Bytes.{newline, slash, colon, begins_by, is_option_like}
use Rattle.git_reads.specs.Credentials.{CredentialDecodes, CredentialReading, FindsParts}

-- ---- line feeds

-- the text contains a line feed
abbrev pub has_feed : List ℕ → Bool
has_feed bs = list_any (λ b. b == newline) bs

-- there is a part, and it contains a line feed
abbrev pub part_has_feed : Option (List ℕ) → Bool
part_has_feed None = false
part_has_feed (Some bs) = has_feed bs

-- the text that Git decodes has a line feed; Git leaves the part before the first colon unchanged
abbrev pub DecodesToLines : List ℕ → Type 0
DecodesToLines t = (decoded : List ℕ) × CredentialDecodes t decoded × (has_feed decoded ≡ true)

-- ---- relative URLs

-- a step up: `../`, with either separator
abbrev pub is_step_up : List ℕ → Bool
is_step_up s = bytes_eq s (codes "../") || bytes_eq s (codes "..\\")

-- a step: `./` or `../`, with either separator
abbrev pub is_step : List ℕ → Bool
is_step s = is_step_up s || (bytes_eq s (codes "./") || bytes_eq s (codes ".\\"))

-- the URL is relative: it begins with a step
abbrev pub IsRelative : List ℕ → Type 0
IsRelative t = (step : List ℕ) × (rest : List ℕ) × (is_step step ≡ true) × (t ≡ step ++ rest)

-- a `:` or a `/`
abbrev pub is_colon_or_slash : ℕ → Bool
is_colon_or_slash b = b == colon || b == slash

-- a `:` or a `/` follows the steps of the URL, at least one of which goes up: appended to another URL, it may
-- replace its host
pub record ReplacesHost (t : List ℕ) : Type 0 where
  pub steps : List (List ℕ)
  pub rest : List ℕ
  pub joined : t ≡ concat steps ++ rest
  pub are : list_all is_step steps ≡ true
  pub up : list_any is_step_up steps ≡ true
  pub begins : begins_by is_colon_or_slash rest ≡ true

-- the URL is of Git's own protocol
abbrev pub IsOwnUrl : List ℕ → Type 0
IsOwnUrl t = (rest : List ℕ) × (t ≡ codes "git://" ++ rest)

-- ---- URLs for curl

-- a scheme that the helper for curl serves, in lower case
abbrev pub is_curl_scheme : List ℕ → Bool
is_curl_scheme s = bytes_eq s (codes "http") || (bytes_eq s (codes "https")
    || (bytes_eq s (codes "ftp") || bytes_eq s (codes "ftps")))

-- Git passes this text to the helper for curl: the text after `http::` and the like, or a whole URL
pub data IsForCurl (t text : List ℕ) : Type 0 where
  named : (scheme : List ℕ) → is_curl_scheme scheme ≡ true → t ≡ scheme ++ (codes "::" ++ text)
      → IsForCurl t text
  whole : (scheme rest : List ℕ) → is_curl_scheme scheme ≡ true → t ≡ scheme ++ (codes "://" ++ rest)
      → text ≡ t → IsForCurl t text

-- one of the parts contains a line feed
abbrev pub parts_have_feed : CredentialReading → Bool
parts_have_feed r = has_feed r.protocol || (part_has_feed r.user || (part_has_feed r.password
    || (has_feed r.host || part_has_feed r.path)))

-- the credential code finds a host in the text, and no line feed: unlike for a helper, it accepts a carriage return
pub record FindsHost (t : List ℕ) : Type 0 where
  pub parts : CredentialReading
  pub found : FindsParts t parts
  pub lines : parts_have_feed parts ≡ false
  pub host : 0 < length parts.host

-- the URL is for curl, and the text for curl has no host, or has a line feed
abbrev pub LacksHost : List ℕ → Type 0
LacksHost t = (text : List ℕ) × IsForCurl t text × ¬ FindsHost text

-- ---- refused URLs

-- fsck refuses the URL of a submodule: it looks like an option; it is relative or of Git's own protocol, and has
-- several lines once decoded; it is relative and may replace a host; or it is for curl and has no host
pub data IsRefusedUrl (t : List ℕ) : Type 0 where
  option : is_option_like t ≡ true → IsRefusedUrl t
  several_lines : IsRelative t ⊎ IsOwnUrl t → DecodesToLines t → IsRefusedUrl t
  other_host : ReplacesHost t → IsRefusedUrl t
  no_host : LacksHost t → IsRefusedUrl t

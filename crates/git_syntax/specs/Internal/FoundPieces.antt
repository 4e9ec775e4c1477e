-- The slices that are found in a text: the location that they denote, and the buffer that they need.
use Rattle.std.specs.Prelude.{◌≡◌, ℕ, ◌+◌, true, false, ◌==◌, List, [], ◌∷◌, length, Option, Some, None, option_map, IfSome, IsUtf8, if◌then◌else◌}
use Rattle.std.specs.Option.{option_copied, unwrap_or}
use Rattle.std.specs.List.{list_any}
use Rattle.percent_encoding.specs.Percent.{percent_decode}
use Rattle.git_syntax.specs.declared.found.Found.{Found}
use Rattle.git_syntax.specs.declared.found.Found.TheVariants as found
use Rattle.git_syntax.specs.declared.found.ScpHost.{ScpHost}
use Rattle.git_syntax.specs.declared.found.ScpHost.TheVariants as host
use Rattle.git_syntax.specs.declared.rules.Rules.{Rules}
use Rattle.git_syntax.specs.declared.url_syntax.ParsedUrl.{ParsedUrl}
use Rattle.git_syntax.specs.Location.{Scheme, Location, path_alone}
use Rattle.git_syntax.specs.Location.Scheme.{file, git, ssh, http, https, ext, helper, helper_url}
use Rattle.git_syntax.specs.Bytes.{colon, left_bracket, right_bracket}
use Rattle.git_syntax.specs.Escapes.{has_percent}
use Rattle.git_syntax.specs.Schemes.{scheme_of}
use Rattle.git_syntax.specs.Internal.SchemeRules.{AreRulesOf}
use Rattle.git_syntax.specs.Hosts.{normal_host}
use Rattle.git_syntax.specs.Internal.HostPieces.{lowercase_address}
use Rattle.git_syntax.specs.Internal.UrlPieces.{AreTexts, syntax_of}
use Rattle.git_syntax.specs.Authority.{unless_empty}
use Rattle.git_syntax.specs.Grammar.{UrlSyntax, helper_scheme, path_for, retained_spelling, scp_location}

-- ---- the host that Secure Shell takes

-- the text before a last c, if the text ends in one
abbrev pub text_before_last : ℕ → List ℕ → Option (List ℕ)
text_before_last c [] = None
text_before_last c (b ∷ []) = if b == c then Some [] else None
text_before_last c (b ∷ d ∷ bs) = option_map (λ front. b ∷ front) (text_before_last c (d ∷ bs))

-- the host without a last colon, if it has no other; `front` is the host before that colon
abbrev pub colon_dropped : List ℕ → Option (List ℕ) → List ℕ
colon_dropped host None = host
colon_dropped host (Some front) = if list_any (λ b. b == colon) front then host else front

-- the host without brackets around it, and without a colon after it: the one that `IsSshHost` allows
abbrev pub ssh_host : List ℕ → List ℕ
ssh_host [] = []
ssh_host (b ∷ bs) =
    if b == left_bracket
    then unwrap_or (text_before_last right_bracket (unwrap_or (text_before_last colon bs) bs)) (b ∷ bs)
    else colon_dropped (b ∷ bs) (text_before_last colon (b ∷ bs))

-- the host of a location, by its scheme, from the host of its URL: the one that `HostFor` allows
abbrev pub host_for : Scheme → Option (List ℕ) → Option (List ℕ)
host_for ssh named = option_map ssh_host named
host_for file named = named
host_for git named = named
host_for http named = named
host_for https named = named
host_for ext named = named
host_for (helper name) named = named
host_for (helper_url name) named = named

-- ---- the location that slices denote

-- the location that the fields of a URL denote, by its scheme: the one that `DenotesByScheme` allows
abbrev pub url_location : Scheme → UrlSyntax → Location
url_location scheme parts = record {
  scheme = scheme;
  user = parts.user;
  password = parts.password;
  host = host_for scheme parts.host;
  flag = false;
  port = parts.port;
  path = path_for scheme (percent_decode parts.path);
  spelling = retained_spelling parts.path;
}

-- the slice of a host of the scp form
abbrev pub scp_slice : ScpHost → List ℕ
scp_slice (host.Literal text) = text.now
scp_slice (host.Name text) = text.now
scp_slice (host.Kept text) = text.now

-- the host that the slice of an scp form denotes
abbrev pub scp_host_of : ScpHost → List ℕ
scp_host_of (host.Literal text) = lowercase_address text.now
scp_host_of (host.Name text) = normal_host text.now
scp_host_of (host.Kept text) = text.now

-- the location that the slices of a text denote
abbrev pub denoted : Found → Location
denoted (found.Helper name address) = path_alone (helper_scheme name.now) true address.now
denoted (found.Local path) = path_alone file true path.now
denoted (found.File host path) = record (path_alone file false path.now) { host = unless_empty host.now }
denoted (found.Ext text) = path_alone ext true text.now
denoted (found.Url rules url) = url_location (scheme_of url.scheme.now) (syntax_of url)
denoted (found.Scp user host path) = scp_location (option_copied user) (scp_host_of host) path.now

-- the rules of a URL are those of its scheme, its texts are UTF-8, and `escaped` says whether its path has a
-- `%`
pub record IsReadyUrl (rules : Rules) (url : ParsedUrl) : Type 0 where
  pub ruled : AreRulesOf url.scheme.now rules
  pub scheme_text : IsUtf8 url.scheme.now
  pub texts : AreTexts (syntax_of url)
  pub escaped : url.escaped ≡ has_percent url.path.now

-- a user and a host are UTF-8
pub record AreScpTexts (user : Option (List ℕ)) (host : List ℕ) : Type 0 where
  pub user_text : IfSome user IsUtf8
  pub host_text : IsUtf8 host

-- a location can be built from these slices: those of text fields are UTF-8
abbrev pub IsReady : Found → Type 0
IsReady (found.Helper name address) = IsUtf8 name.now
IsReady (found.Local path) = Unit {0}
IsReady (found.File host path) = IsUtf8 host.now
IsReady (found.Ext text) = Unit {0}
IsReady (found.Url rules url) = IsReadyUrl rules url
IsReady (found.Scp user host path) = AreScpTexts (option_copied user) (scp_host_of host)

-- ---- the buffer that a borrowed location needs

-- the length of a text that may be missing
abbrev pub optional_length : Option (List ℕ) → ℕ
optional_length None = 0
optional_length (Some text) = length text

-- the length of the decoded fields of a URL
abbrev pub parts_length : UrlSyntax → ℕ
parts_length parts = optional_length parts.user + optional_length parts.password
    + optional_length parts.host
    + length (percent_decode parts.path)

-- a buffer of this length suffices for the fields whose bytes are not in the text: those of a URL, and the
-- host of the scp form
abbrev pub buffer_length_for : Found → ℕ
buffer_length_for (found.Url rules url) = parts_length (syntax_of url)
buffer_length_for (found.Scp user host path) = length (scp_slice host)
buffer_length_for _ = 0

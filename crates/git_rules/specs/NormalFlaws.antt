-- The reasons why a text has no normal form.
use Rattle.std.specs.Prelude.{◌≡◌, ℕ, Bool, true, false, ◌⊎◌, List, [], ◌∷◌, ◌++◌, codes, Option, None, ◌+◌, ◌*◌, ◌<◌, ◌≤◌, length, Result, Ok, Err}
use Rattle.std.specs.List.{list_all}
use Rattle.git_syntax.specs.Bytes.{at_sign, FreeOf, lowercase, is_query_start, unrooted}
use Rattle.git_syntax.specs.Escapes.{is_sound}
use Rattle.git_syntax.specs.Hosts.HostSyntax.{http_hosts}
use Rattle.git_syntax.specs.Flaws.{IsNoPort}
use Rattle.git_rules.specs.declared.normal.NormalError.{NormalError}
use Rattle.git_rules.specs.declared.normal.NormalError.TheVariants.{NoRoom, NoUrl, BrokenEscape, NoHost, BadHost, BadPort, AboveRoot}
use Rattle.git_rules.specs.Normal.{CutsPort, lacks_host, is_host_byte, normal_segments, write_segments, NormalAuthority, NormalPlace, UrlCut, IsNormalOf}
use Rattle.git_rules.specs.NormalPieces.{CutsBefore}

-- the text before the port has only bytes that a host may have
abbrev pub HasHostBytes : Bool → List ℕ → Type 0
HasHostBytes globs text = (name : List ℕ) × (port : List ℕ) × CutsPort text name port
    × (list_all (is_host_byte globs) name ≡ true)

-- the text after the colon isn't a port: after a host it is neither empty nor a number, and without a host,
-- which `file` allows, it isn't empty
abbrev pub IsBadPort : List ℕ → List ℕ → List ℕ → Type 0
IsBadPort scheme text port = ((lacks_host text ≡ false) × IsNoPort http_hosts port)
    ⊎ ((lacks_host text ≡ true) × (scheme ≡ codes "file") × ¬ (port ≡ []))

-- the error in a host and its port: a byte that no host has; if there is none, no host though the scheme needs one;
-- if there is a host or the scheme needs none, a bad port
abbrev pub HostFlaw : Bool → List ℕ → List ℕ → NormalError → Type 0
HostFlaw globs scheme text BadHost = (name : List ℕ) × (port : List ℕ) × CutsPort text name port
    × (list_all (is_host_byte globs) name ≡ false)
HostFlaw globs scheme text NoHost = HasHostBytes globs text × (lacks_host text ≡ true)
    × ¬ (scheme ≡ codes "file")
HostFlaw globs scheme text BadPort = (name : List ℕ) × (port : List ℕ) × CutsPort text name port
    × (list_all (is_host_byte globs) name ≡ true) × IsBadPort scheme text port
HostFlaw globs scheme text _ = ⊥

-- user information has a malformed escape
abbrev pub IsBroken : List ℕ → NormalError → Type 0
IsBroken info BrokenEscape = is_sound info ≡ false
IsBroken info _ = ⊥

-- the error in an authority: a malformed escape in its user information; if that has none, the error in its host
abbrev pub AuthorityFlaw : Bool → List ℕ → List ℕ → NormalError → Type 0
AuthorityFlaw globs scheme text flaw = (FreeOf at_sign text × HostFlaw globs scheme text flaw)
    ⊎ ((info : List ℕ) × (rest : List ℕ) × FreeOf at_sign info × (text ≡ info ++ at_sign ∷ rest)
    × (IsBroken info flaw ⊎ ((is_sound info ≡ true) × HostFlaw globs scheme rest flaw)))

-- the authority has no error: it has a normal form
abbrev pub IsSoundAuthority : Bool → List ℕ → List ℕ → Type 0
IsSoundAuthority globs scheme text = (user : Option (List ℕ)) × (host : List ℕ) × (port : Option ℕ)
    × NormalAuthority globs scheme text user host port

-- the error in the text after the authority: a malformed escape; if there is none, a segment `..` without one
-- before it
abbrev pub PathFlaw : List ℕ → NormalError → Type 0
PathFlaw suffix BrokenEscape = is_sound suffix ≡ false
PathFlaw suffix AboveRoot = (segments : List ℕ) × (rest : List ℕ) × CutsBefore is_query_start (unrooted suffix) segments rest
    × (write_segments (normal_segments segments) [] ≡ None) × (is_sound suffix ≡ true)
PathFlaw suffix _ = ⊥

-- the error in an authority; if that has none, the error in the text after it
abbrev pub PartFlaw : Bool → List ℕ → List ℕ → List ℕ → NormalError → Type 0
PartFlaw globs scheme authority suffix flaw = AuthorityFlaw globs scheme authority flaw
    ⊎ (IsSoundAuthority globs scheme authority × PathFlaw suffix flaw)

-- the error in a text: it isn't a URL; if it is one, the error in its authority or in the text after that. The text
-- determines the error
abbrev pub HasFlaw : Bool → List ℕ → NormalError → Type 0
HasFlaw globs text NoRoom = ⊥
HasFlaw globs text NoUrl = (scheme authority suffix : List ℕ) → ¬ UrlCut text scheme authority suffix
HasFlaw globs text flaw = (scheme : List ℕ) × (authority : List ℕ) × (suffix : List ℕ) × UrlCut text scheme authority suffix
    × PartFlaw globs (lowercase scheme) authority suffix flaw

-- the result for a text and a buffer of this length: the normal form, or the buffer is too short, or an error and
-- no normal form
abbrev pub NormalizesIn : Bool → List ℕ → ℕ → Result NormalPlace NormalError → Type 0
NormalizesIn globs text buffer_len (Ok n) = (3 * length text + 1 ≤ buffer_len) × IsNormalOf globs text n
NormalizesIn globs text buffer_len (Err NoRoom) = buffer_len < 3 * length text + 1
NormalizesIn globs text buffer_len (Err flaw) = (3 * length text + 1 ≤ buffer_len) × HasFlaw globs text flaw
    × ((n : NormalPlace) → ¬ IsNormalOf globs text n)

-- Comparison of a location with the place that Git reads in its text, and of a refused line with the place that Git
-- reads in it.
use Rattle.std.specs.Prelude.{◌≡◌, ℕ, Bool, true, false, ◌||◌, ◌==◌, List, Option, Some, None, option_map}
use Rattle.std.specs.List.{list_any}
use Rattle.std.specs.Option.{option_and_then}
use Rattle.git_syntax.specs.Authority.{unless_empty}
use Rattle.git_syntax.specs.Bytes.{at_sign, colon}
use Rattle.git_reads.specs.declared.transport.GitPlace.{GitPlace}
use Rattle.git_reads.specs.declared.transport.Protocol.{Protocol}
use Rattle.git_reads.specs.declared.transport.Protocol.TheVariants as protocol
use Rattle.gix_url.specs.Location.{Scheme, Location}
use Rattle.gix_url.specs.Location.Scheme.{file, git, ssh, http, https, ext, helper, helper_url}
use Rattle.explain_report.specs.Marks.{some_passes}
use Rattle.explain_report.specs.Secrets.{has_secret}

-- the built-in transport of Git for the scheme
abbrev pub own_protocol : Scheme → Option Protocol
own_protocol file = Some protocol.File
own_protocol git = Some protocol.Git
own_protocol ssh = Some protocol.Ssh
own_protocol http = None
own_protocol https = None
own_protocol ext = None
own_protocol (helper name) = None
own_protocol (helper_url name) = None

-- Git passes the text to a remote helper other than curl because of the scheme
abbrev pub is_for_helper : Scheme → Bool
is_for_helper file = false
is_for_helper git = false
is_for_helper ssh = false
is_for_helper http = false
is_for_helper https = false
is_for_helper ext = true
is_for_helper (helper name) = true
is_for_helper (helper_url name) = true

-- a host, unless it is empty
abbrev pub named_host : Option (List ℕ) → Option (List ℕ)
named_host host = option_and_then unless_empty host

-- the place that Git reads has the fields of the location
abbrev pub IsPlaceOf : Location → GitPlace → Type 0
IsPlaceOf v found = (own_protocol v.scheme ≡ Some found.protocol)
    × (v.user ≡ option_map (λ it. it.now) found.user)
    × (named_host v.host ≡ option_map (λ it. it.now) found.host)
    × (v.port ≡ found.port)
    × (v.path ≡ found.path.now)

-- both locations have the same fields but for their form, and the second has no password
abbrev pub AreSamePlace : Location → Location → Type 0
AreSamePlace v other = (v.scheme ≡ other.scheme)
    × (v.user ≡ other.user)
    × (other.password ≡ None)
    × (v.host ≡ other.host)
    × (v.port ≡ other.port)
    × (v.path ≡ other.path)

-- the part has the mark that ends a user or a password, or a part of it may be a secret
abbrev pub may_hide : ℕ → List ℕ → Bool
may_hide mark part = list_any (λ b. b == mark) part || has_secret part

-- a part of what Git reads may be a secret
abbrev pub place_has_secret : GitPlace → Bool
place_has_secret found = some_passes (may_hide colon) (option_map (λ it. it.now) found.user)
    || (some_passes (may_hide at_sign) (option_map (λ it. it.now) found.host) || has_secret found.path.now)

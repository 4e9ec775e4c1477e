-- The reasons for which Git reads no place in a text.
use Rattle.std.specs.Prelude.{◌≡◌, ℕ, ◌<◌, true, false, List, ◌∷◌, ◌++◌, length, codes, Option}
use Rattle.git_syntax.specs.Location.Scheme.{file, git, ssh}
use Rattle.git_syntax.specs.Bytes.{slash, colon, tilde, FreeOf, begins_with, is_helper_name, is_option_like}
use Rattle.git_syntax.specs.Schemes.{scheme_of}
use Rattle.git_syntax.specs.Grammar.{HasHelperForm}
use Rattle.git_reads.specs.declared.transport.Unread.{Unread}
use Rattle.git_reads.specs.declared.transport.Unread.TheVariants as why
use Rattle.git_reads.specs.Git.{GitReading, GitReads, OwnUrl, IsNoUrl, IsRemote, IsLocal, HostEnd, BracketCut, CutsPlace, HostAndPort, SecurePort, from_tilde}

-- Git reads no place in the text: it has no reading by `GitReads`
abbrev pub LacksReading : List ℕ → Type 0
LacksReading t = (r : GitReading) → ¬ GitReads t r

-- the scheme is not one of Git's own transports
abbrev pub IsForeign : List ℕ → Type 0
IsForeign scheme = ¬ (scheme_of scheme ≡ ssh) × (¬ (scheme_of scheme ≡ git) × ¬ (scheme_of scheme ≡ file))

-- the text is for a remote helper
pub data IsForHelper (t : List ℕ) : Type 0 where
  -- `name::address`
  named : HasHelperForm t → IsForHelper t
  -- `::address`, with an empty name
  unnamed : (rest : List ℕ) → t ≡ codes "::" ++ rest → IsForHelper t
  -- a URL whose scheme names a helper: `rsync` belonged to a transport that was removed
  by_scheme : (scheme rest : List ℕ) → IsForeign scheme → is_helper_name scheme ≡ true
      → ¬ (scheme ≡ codes "rsync") → t ≡ scheme ++ (codes "://" ++ rest) → IsForHelper t

-- the text is a local path that begins with `~`: `git clone` uses it unchanged, while `git fetch` and `git
-- push` look below a home folder
pub record IsOfTwoPlaces (t : List ℕ) : Type 0 where
  pub no_url : IsNoUrl t
  pub local : IsLocal t
  pub passed : List ℕ
  pub path : List ℕ
  pub end : HostEnd t passed path
  pub tilde_first : begins_with tilde path ≡ true

-- the text is for Secure Shell, with this place and this path
pub data IsForSecureShell (t place path : List ℕ) : Type 0 where
  url : (rest suffix : List ℕ) → OwnUrl ssh t rest → CutsPlace slash rest place suffix
      → path ≡ from_tilde (slash ∷ suffix) → IsForSecureShell t place path
  scp_form : (suffix : List ℕ) → IsNoUrl t → IsRemote t → CutsPlace colon t place suffix
      → path ≡ from_tilde suffix → IsForSecureShell t place path

-- Secure Shell receives a word that begins with `ssh://`, which OpenSSH reads as a URL
pub record GetsUrl (place path : List ℕ) : Type 0 where
  pub named : List ℕ
  pub found : Option ℕ
  pub port : Option ℕ
  pub suffix : List ℕ
  pub cut : HostAndPort place named found
  pub word : SecurePort named found (codes "ssh://" ++ suffix) port
  pub path_safe : is_option_like path ≡ false

-- Git passes Secure Shell a word that begins with `ssh://`
pub record GivesUrl (t : List ℕ) : Type 0 where
  pub place : List ℕ
  pub path : List ℕ
  pub secure : IsForSecureShell t place path
  pub gets : GetsUrl place path

-- brackets are around the host of the place
abbrev pub HasHostBrackets : List ℕ → Type 0
HasHostBrackets place = (front : List ℕ) × (inside : List ℕ) × (suffix : List ℕ) × BracketCut place front inside suffix

-- a reading of the text is written to a buffer
pub data IsRewritten (t : List ℕ) : Type 0 where
  -- a URL of Git's own transports, because it is decoded
  url : (scheme spelled : List ℕ) → ¬ IsForeign scheme → 0 < length spelled
      → t ≡ scheme ++ (codes "://" ++ spelled) → IsRewritten t
  -- the scp form with brackets around its host, because the host is read without them
  scp_form : (place path : List ℕ) → IsNoUrl t → IsRemote t → CutsPlace colon t place path
      → HasHostBrackets place → IsRewritten t

-- Git receives the text whole, and doesn't read it as an option
pub record IsGiven (t : List ℕ) : Type 0 where
  pub whole : FreeOf 0 t
  pub no_option : is_option_like t ≡ false

-- the reason is that of a text that Git receives whole and doesn't read as an option. These reasons exclude one
-- another, but memory may be refused for any text that is rewritten
abbrev pub UnreadsGiven : List ℕ → Unread → Type 0
UnreadsGiven t why.Memory = IsRewritten t
UnreadsGiven t why.RemoteHelper = IsForHelper t
UnreadsGiven t why.HomeOrHere = IsOfTwoPlaces t
UnreadsGiven t why.SecureShellUrl = GivesUrl t
UnreadsGiven t why.Refused = (¬ IsForHelper t) × ((¬ IsOfTwoPlaces t) × ¬ GivesUrl t)
UnreadsGiven t _ = ⊥

-- the reason is that of the text: byte 0 comes before `-` at the front, and that before all others
abbrev pub Unreads : List ℕ → Unread → Type 0
Unreads t why.ByteZero = ¬ FreeOf 0 t
Unreads t why.Option = FreeOf 0 t × (is_option_like t ≡ true)
Unreads t other = IsGiven t × UnreadsGiven t other

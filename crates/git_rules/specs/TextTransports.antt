-- The transport that Git uses for a text, by the form of the text alone. Git looks up the name of this transport
-- before it reads a host, a user or a port in the text. No proof shows that Git follows this definition: the rows
-- of `transport_of` in `vectors/rules/git.jsonl` are Git's results.
use Rattle.std.specs.Prelude.{◌≡◌, ℕ, true, false, ◌⊎◌, List, [], ◌++◌, codes, Ok, if◌then◌else◌}
use Rattle.git_syntax.specs.Location.{Location}
use Rattle.git_syntax.specs.Bytes.{colon, FreeOf, Holds, begins_with, is_helper_name, is_option_like}
use Rattle.git_syntax.specs.Schemes.{is_ssh_scheme, scheme_text}
use Rattle.git_syntax.specs.Grammar.{HelperCut, HasHelperForm}
use Rattle.git_location.specs.Text.{text}
use Rattle.git_location.specs.Settled.{IsValue}
use Rattle.git_class.specs.GitClass.{AgreesWithGit}
use Rattle.git_reads.specs.Git.{GitReading, GitReads, IsNoUrl, IsRemote, IsLocal}
use Rattle.git_reads.specs.Unread.{IsGiven}
use Rattle.git_rules.specs.declared.protocols.text.NoTransport.{NoTransport}
use Rattle.git_rules.specs.declared.protocols.text.NoTransport.TheVariants as why

-- the transport of a URL by its scheme; Secure Shell has three schemes
abbrev pub scheme_transport : List ℕ → List ℕ
scheme_transport scheme = if is_ssh_scheme scheme then codes "ssh" else scheme

-- the transport that Git uses for the text has this name
pub data UsesTransport (t name : List ℕ) : Type 0 where
  -- `name::address`
  helper : (address : List ℕ) → HelperCut t name address → UsesTransport t name
  -- `::address`, with an empty name
  empty_helper : (address : List ℕ) → t ≡ codes "::" ++ address → name ≡ [] → UsesTransport t name
  -- a URL; `rsync` named a transport that Git no longer has
  url : (scheme rest : List ℕ) → t ≡ scheme ++ (codes "://" ++ rest) → is_helper_name scheme ≡ true
      → ¬ (scheme ≡ codes "rsync") → name ≡ scheme_transport scheme → UsesTransport t name
  scp_form : IsNoUrl t → IsRemote t → name ≡ codes "ssh" → UsesTransport t name
  local_path : IsNoUrl t → IsLocal t → name ≡ codes "file" → UsesTransport t name

-- Git uses the transport of this name for the text: the text has no byte 0 and doesn't begin with `-`, and its form
-- has this transport
pub record HasTransport (t name : List ℕ) : Type 0 where
  pub input : IsGiven t
  pub uses : UsesTransport t name

-- the text begins with `rsync:`, and doesn't name a helper `rsync`
pub record IsForRsync (t : List ℕ) : Type 0 where
  pub rest : List ℕ
  pub joined : t ≡ codes "rsync:" ++ rest
  pub single : begins_with colon rest ≡ false

-- the text before the first `://` names neither a transport nor a helper
pub record HasUnknownScheme (t : List ℕ) : Type 0 where
  pub scheme : List ℕ
  pub rest : List ℕ
  pub joined : t ≡ scheme ++ (codes "://" ++ rest)
  pub first : ¬ Holds (codes "://") scheme
  pub unnamed : is_helper_name scheme ≡ false
  pub no_helper : ¬ HasHelperForm t
  pub no_empty_helper : (address : List ℕ) → ¬ (t ≡ codes "::" ++ address)
  pub no_rsync : (address : List ℕ) → ¬ (t ≡ codes "rsync:" ++ address)

-- Git uses no transport for the text, for this reason
abbrev pub LacksTransport : List ℕ → NoTransport → Type 0
LacksTransport t why.ByteZero = ¬ FreeOf 0 t
LacksTransport t why.OptionLike = FreeOf 0 t × (is_option_like t ≡ true)
LacksTransport t why.Rsync = IsGiven t × IsForRsync t
LacksTransport t why.UnknownScheme = IsGiven t × HasUnknownScheme t

-- ---- laws

-- Git uses at most one transport for a text
abbrev pub OneTransport : Type 0
OneTransport = (t name other : List ℕ) → HasTransport t name → HasTransport t other → name ≡ other

-- a text lacks a transport for at most one reason
abbrev pub OneReason : Type 0
OneReason = (t : List ℕ) (w v : NoTransport) → LacksTransport t w → LacksTransport t v → w ≡ v

-- a text that has a transport doesn't lack one
abbrev pub HasOrLacks : Type 0
HasOrLacks = (t name : List ℕ) (w : NoTransport) → HasTransport t name → ¬ LacksTransport t w

-- each text has a transport, or lacks one
abbrev pub EachDecided : Type 0
EachDecided = (t : List ℕ)
    → ((name : List ℕ) × HasTransport t name) ⊎ ((w : NoTransport) × LacksTransport t w)

-- a text in which Git reads a place has the transport of the place's protocol
abbrev pub TransportOfReading : Type 0
TransportOfReading = (t : List ℕ) (r : GitReading) → GitReads t r → HasTransport t (scheme_text r.protocol)

-- the text of a location that `AgreesWithGit` has the transport of the location's scheme
abbrev pub TransportOfLocation : Type 0
TransportOfLocation = (v : Location) (t : List ℕ) → IsValue v → AgreesWithGit v → text v ≡ Ok t
    → HasTransport t (scheme_text v.scheme)

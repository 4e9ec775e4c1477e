-- Flaws: why a text spells no location. Each error names one that is in the text.
use Rattle.std.specs.Prelude.{◌≡◌, ℕ, ◌<◌, Bool, true, false, ◌⊎◌, List, [], ◌∷◌, ◌++◌, length, codes, bytes_eq, Option, IsUtf8}
use Rattle.percent_encoding.specs.Percent.{percent_decode}
use Rattle.git_syntax.specs.declared.refusal.UrlKind.{UrlKind}
use Rattle.git_syntax.specs.declared.refusal.UrlKind.TheVariants as kind
use Rattle.git_syntax.specs.declared.refusal.UrlFault.{UrlFault}
use Rattle.git_syntax.specs.declared.refusal.UrlFault.TheVariants as fault
use Rattle.git_syntax.specs.declared.refusal.Refusal.{Refusal}
use Rattle.git_syntax.specs.declared.refusal.Refusal.TheVariants as refusal
use Rattle.git_syntax.specs.Bytes.{slash, colon, at_sign, left_bracket, backslash, right_bracket, Lacks, FreeOf, begins_with, Holds, LacksWhiteSpace, is_scheme_text, is_path_start, StartsPath}
use Rattle.git_syntax.specs.Escapes.{is_sound, escaped_percents}
use Rattle.git_syntax.specs.Hosts.{HostSyntax, HostText, Inner, Number, ReadsAddress, IsManyColoned, IsPlainHost, EndsHost}
use Rattle.git_syntax.specs.Hosts.HostSyntax.{http_hosts, git_hosts}
use Rattle.git_syntax.specs.Schemes.{is_web_scheme, scheme_of, host_syntax_of, requires_host, requires_path}
use Rattle.git_syntax.specs.Authority.{Fits}
use Rattle.git_syntax.specs.Grammar.{HasHelperForm, ScpForm, AddressedForm, IsAddressed, HasScpForm, ScpUser}

-- ---- hosts and ports

-- the text is not empty and spells no port
abbrev pub IsNoPort : HostSyntax → List ℕ → Type 0
IsNoPort syntax text = (0 < length text) × ((port : ℕ) → ¬ Number syntax text port)

-- the text after the colon of a port is not a port
pub data HasBadPort (syntax : HostSyntax) (piece : List ℕ) : Type 0 where
  -- after a host outside brackets
  plain : (text digits : List ℕ) → IsPlainHost text → FreeOf colon digits
      → piece ≡ text ++ colon ∷ digits → IsNoPort syntax digits → HasBadPort syntax piece
  -- after brackets
  bracketed : (x digits : List ℕ) → FreeOf right_bracket x
      → piece ≡ left_bracket ∷ (x ++ right_bracket ∷ (colon ∷ digits)) → IsNoPort syntax digits
      → HasBadPort syntax piece

-- the text is empty, or a colon and a text without colons
abbrev pub IsPortPlace : List ℕ → Type 0
IsPortPlace rest = (rest ≡ []) ⊎ ((digits : List ℕ) × FreeOf colon digits × (rest ≡ colon ∷ digits))

-- the text denotes no host
abbrev pub IsNoHost : HostSyntax → List ℕ → Type 0
IsNoHost syntax text = (host : List ℕ) → ¬ HostText syntax text host

-- the text in brackets denotes no host
abbrev pub IsNoInner : HostSyntax → List ℕ → Type 0
IsNoInner syntax text = (inner : List ℕ) → ¬ Inner syntax text inner

-- the text is `[`, a text without `]`, and `]`, followed by nothing, or by a colon and anything
pub record BracketsAround (piece x rest : List ℕ) : Type 0 where
  pub closed : FreeOf right_bracket x
  pub joined : piece ≡ left_bracket ∷ (x ++ right_bracket ∷ rest)
  pub followed : EndsHost rest

-- a byte or an escape in the place of the host is not allowed
pub data HasBadHost (syntax : HostSyntax) (piece : List ℕ) : Type 0 where
  -- the text before the place of the port denotes no host
  plain : (text rest : List ℕ) → IsPlainHost text → IsPortPlace rest → piece ≡ text ++ rest
      → IsNoHost syntax text → HasBadHost syntax piece
  -- HTTP refuses colons that don't begin a port
  colons_on_the_web : syntax ≡ http_hosts → begins_with left_bracket piece ≡ false → IsManyColoned piece
      → HasBadHost syntax piece
  -- a text with colons that don't begin a port denotes no host
  colons : ¬ (syntax ≡ http_hosts) → ¬ ReadsAddress syntax piece → begins_with left_bracket piece ≡ false
      → IsManyColoned piece → IsNoHost syntax piece → HasBadHost syntax piece
  -- a bracket is not closed
  open_bracket : (suffix : List ℕ) → FreeOf right_bracket suffix → piece ≡ left_bracket ∷ suffix
      → HasBadHost syntax piece
  -- the text after a closed bracket begins with another byte than a colon
  after_bracket : (x rest : List ℕ) → FreeOf right_bracket x
      → piece ≡ left_bracket ∷ (x ++ right_bracket ∷ rest) → 0 < length rest
      → begins_with colon rest ≡ false → HasBadHost syntax piece
  -- the text in brackets denotes no host
  brackets : (x rest : List ℕ) → BracketsAround piece x rest → IsNoInner syntax x → HasBadHost syntax piece

-- a flaw of the text after the user information
abbrev pub HostPortFlaw : HostSyntax → List ℕ → UrlFault → Type 0
HostPortFlaw syntax piece fault.BadPort = HasBadPort syntax piece
HostPortFlaw syntax piece fault.BadCharacter = HasBadHost syntax piece
HostPortFlaw syntax piece fault.NoScheme = ⊥
HostPortFlaw syntax piece fault.HostRequired = ⊥

-- ---- authorities

-- the text of an authority after the user information
pub data PieceOf (authority piece : List ℕ) : Type 0 where
  whole : FreeOf at_sign authority → piece ≡ authority → PieceOf authority piece
  suffix : (information : List ℕ) → FreeOf at_sign piece → authority ≡ information ++ at_sign ∷ piece
      → PieceOf authority piece

-- a user or a password that doesn't decode to text
pub data HasBadUser (authority : List ℕ) : Type 0 where
  -- user information without a colon is the user
  user : (u piece : List ℕ) → FreeOf at_sign piece → FreeOf colon u
      → authority ≡ u ++ at_sign ∷ piece → ¬ IsUtf8 (percent_decode u) → HasBadUser authority
  -- the text before its first colon is the user
  user_before_password : (u w piece : List ℕ) → FreeOf at_sign piece → FreeOf colon u
      → authority ≡ (u ++ colon ∷ w) ++ at_sign ∷ piece → ¬ IsUtf8 (percent_decode u)
      → HasBadUser authority
  -- the text after that colon is the password
  password : (u w piece : List ℕ) → FreeOf at_sign piece → FreeOf colon u
      → authority ≡ (u ++ colon ∷ w) ++ at_sign ∷ piece → ¬ IsUtf8 (percent_decode w)
      → HasBadUser authority

-- a flaw of an authority, for a scheme that needs a host or doesn't
pub data AuthorityFlaw (syntax : HostSyntax) (needed : Bool) (authority : List ℕ) : UrlFault → Type 0 where
  -- it has a backslash
  holds_backslash : ¬ FreeOf backslash authority
      → AuthorityFlaw syntax needed authority fault.BadCharacter
  -- a user or a password that doesn't decode to text
  bad_user : HasBadUser authority → AuthorityFlaw syntax needed authority fault.BadCharacter
  -- a flaw of the text after the user information
  bad_name : (piece : List ℕ) (named : UrlFault) → PieceOf authority piece
      → HostPortFlaw syntax piece named → AuthorityFlaw syntax needed authority named
  -- user information without a host
  no_host : (information : List ℕ) → authority ≡ information ++ at_sign ∷ []
      → AuthorityFlaw syntax needed authority fault.BadCharacter
  -- the authority is empty, and a host is needed
  host_required : needed ≡ true → authority ≡ [] → AuthorityFlaw syntax needed authority fault.HostRequired

-- ---- URLs

-- the text has the form of a URL: it is not a remote helper, and `front` and `rest` are before and after its
-- first `://`
pub record UrlForm (b front rest : List ℕ) : Type 0 where
  pub no_helper : ¬ HasHelperForm b
  pub first : ¬ Holds (codes "://") front
  pub joined : b ≡ front ++ (codes "://" ++ rest)

-- the form of a URL that is not a file URL
pub record OtherUrlForm (b front rest : List ℕ) : Type 0 where
  pub form : UrlForm b front rest
  pub not_file : bytes_eq front (codes "file") ≡ false

-- a URL's scheme, authority and path
pub record UrlCut (b scheme authority path : List ℕ) : Type 0 where
  pub form : OtherUrlForm b scheme (authority ++ path)
  pub scheme_text : is_scheme_text scheme ≡ true
  pub before_path : Lacks (is_path_start (is_web_scheme scheme)) authority
  pub path_starts : StartsPath (is_web_scheme scheme) path

-- a flaw of a URL
pub data UrlFlaw (b : List ℕ) : UrlFault → Type 0 where
  -- the text before `://` is not a scheme
  no_scheme : (front rest : List ℕ) → OtherUrlForm b front rest → is_scheme_text front ≡ false
      → UrlFlaw b fault.NoScheme
  -- white space, or a `%` that begins no escape
  white_space : (front rest : List ℕ) → OtherUrlForm b front rest → IsUtf8 b → ¬ LacksWhiteSpace b
      → UrlFlaw b fault.BadCharacter
  unsound : (front rest : List ℕ) → OtherUrlForm b front rest → is_sound b ≡ false
      → UrlFlaw b fault.BadCharacter
  -- the path, which ends the text, doesn't decode to text
  bad_path : (scheme authority path : List ℕ) → UrlCut b scheme authority path
      → ¬ IsUtf8 (percent_decode path) → UrlFlaw b fault.BadCharacter
  -- a flaw of the authority, which follows `://`
  bad_authority : (scheme authority path : List ℕ) (named : UrlFault) → UrlCut b scheme authority path
      → AuthorityFlaw (host_syntax_of scheme) (requires_host scheme) authority named → UrlFlaw b named

-- ---- the scp form

-- a host of the scp form, with each `%` escaped, has a flaw
abbrev pub ScpNameFlaw : List ℕ → UrlFault → Type 0
ScpNameFlaw host named = HostPortFlaw git_hosts (escaped_percents host) named

-- a flaw of the host of the scp form
pub data ScpHostFlaw (host : List ℕ) : UrlFault → Type 0 where
  -- the host is empty
  empty : host ≡ [] → ScpHostFlaw host fault.HostRequired
  -- it has a byte or a character that no host has
  holds_backslash : ¬ FreeOf backslash host → ScpHostFlaw host fault.BadCharacter
  white_space : IsUtf8 host → ¬ LacksWhiteSpace host → ScpHostFlaw host fault.BadCharacter
  -- it denotes no host
  bad_name : (named : UrlFault) → ScpNameFlaw host named → ScpHostFlaw host named

-- a flaw of the scp form, if it isn't `user@[address]:path`
pub record ScpFlaw (b : List ℕ) (named : UrlFault) : Type 0 where
  pub not_addressed : ¬ IsAddressed b
  pub front : List ℕ
  pub path : List ℕ
  pub user : Option (List ℕ)
  pub host : List ℕ
  pub form : ScpForm b front path
  pub split : ScpUser front user host
  pub no_at : FreeOf at_sign host
  pub flaw : ScpHostFlaw host named

-- ---- all errors

-- a path is missing
pub data MissesPath (b : List ℕ) : UrlKind → Type 0 where
  -- no `/` follows the mark of a file URL
  in_file : (host : List ℕ) → FreeOf slash host → b ≡ codes "file://" ++ host
      → MissesPath b kind.Url
  -- no `/` follows the mark of a URL of Git's own transports
  in_url : (scheme authority : List ℕ) → requires_path (scheme_of scheme) ≡ true
      → FreeOf slash authority → b ≡ scheme ++ (codes "://" ++ authority) → MissesPath b kind.Url
  -- nothing follows the colon of the scp form
  in_scp : (front : List ℕ) → ScpForm b front [] → MissesPath b kind.Scp
  -- nothing follows an address in brackets
  after_address : (user address : List ℕ) → AddressedForm b user address []
      → MissesPath b kind.Scp

-- the bytes have the form of this kind
abbrev pub HasForm : List ℕ → UrlKind → Type 0
HasForm b kind.Url = (front : List ℕ) × (rest : List ℕ) × UrlForm b front rest
HasForm b kind.Scp = HasScpForm b
HasForm b kind.Local = ⊥

-- a URL is too long: its scheme is, or the text after `://`
pub record IsTooLong (b : List ℕ) : Type 0 where
  pub front : List ℕ
  pub rest : List ℕ
  pub form : OtherUrlForm b front rest
  pub unfit : ¬ Fits front rest

-- a flaw of a text of this kind
abbrev pub KindFlaw : List ℕ → UrlKind → UrlFault → Type 0
KindFlaw b kind.Url named = UrlFlaw b named
KindFlaw b kind.Scp named = ScpFlaw b named
KindFlaw b kind.Local named = ⊥

-- the flaw that the error names is in the text
abbrev pub NamesFlaw : List ℕ → Refusal → Type 0
NamesFlaw b refusal.EmptyLocal = b ≡ []
NamesFlaw b (refusal.MissingPath kind) = MissesPath b kind
NamesFlaw b (refusal.NotUtf8 kind) = ¬ IsUtf8 b × HasForm b kind
NamesFlaw b refusal.TooLong = IsTooLong b
NamesFlaw b (refusal.BadUrl kind fault) = KindFlaw b kind fault

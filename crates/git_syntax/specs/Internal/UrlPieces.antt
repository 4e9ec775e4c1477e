-- The slices that the reader of URLs returns: the texts that they denote, and the contracts of the reader.
use Rattle.std.specs.Prelude.{◌≡◌, ℕ, Bool, true, ◌⊎◌, List, [], ◌∷◌, ◌++◌, Option, option_map, IfSome, IsSome, IsUtf8, Result, MatchResult}
use Rattle.std.specs.Borrow.{Bor}
use Rattle.percent_encoding.specs.Percent.{percent_decode}
use Rattle.git_syntax.specs.declared.refusal.UrlFault.{UrlFault}
use Rattle.git_syntax.specs.declared.refusal.UrlFault.TheVariants.{BadCharacter}
use Rattle.git_syntax.specs.declared.url_syntax.ParsedUrl.{ParsedUrl}
use Rattle.git_syntax.specs.declared.url_syntax.AuthoritySlices.{AuthoritySlices}
use Rattle.git_syntax.specs.declared.url_syntax.CredentialSlices.{CredentialSlices}
use Rattle.git_syntax.specs.Bytes.{colon, left_bracket, right_bracket, Lacks, FreeOf, is_path_start, StartsPath}
use Rattle.git_syntax.specs.Hosts.{HostSyntax}
use Rattle.git_syntax.specs.Schemes.{is_web_scheme}
use Rattle.git_syntax.specs.Authority.{Credentials, Authority}
use Rattle.git_syntax.specs.Grammar.{UrlSyntax}
use Rattle.git_syntax.specs.Internal.HostPieces.{host_of, port_of}

-- the decoding of an escaped piece
abbrev pub decoded_piece : Bor (List ℕ) → List ℕ
decoded_piece piece = percent_decode piece.now

-- the decoding of an escaped piece, if there is one
abbrev pub decoded_option : Option (Bor (List ℕ)) → Option (List ℕ)
decoded_option piece = option_map decoded_piece piece

-- the fields of a URL that was read
abbrev pub syntax_of : ParsedUrl → UrlSyntax
syntax_of url = record {
  scheme = url.scheme.now;
  user = decoded_option url.user;
  password = decoded_option url.password;
  host = host_of url.host;
  port = port_of url.host;
  path = url.path.now;
}

-- the text after the `://` of a URL with this scheme is its authority and its path
pub record CutsRest (scheme rest authority path : List ℕ) : Type 0 where
  pub joined : rest ≡ authority ++ path
  pub before_path : Lacks (is_path_start (is_web_scheme scheme)) authority
  pub path_starts : StartsPath (is_web_scheme scheme) path

-- user information consists of this user and this password, both decoded
abbrev pub HoldsCredentials : List ℕ → CredentialSlices → Type 0
HoldsCredentials information parts = Credentials information (decoded_option parts.user)
    (decoded_option parts.password)

-- a user or a password that doesn't decode to text
pub data HasNoText (information : List ℕ) : Type 0 where
  user : FreeOf colon information → ¬ IsUtf8 (percent_decode information) → HasNoText information
  user_before_password : (u w : List ℕ) → FreeOf colon u → information ≡ u ++ colon ∷ w
      → ¬ IsUtf8 (percent_decode u) → HasNoText information
  password : (u w : List ℕ) → FreeOf colon u → information ≡ u ++ colon ∷ w
      → ¬ IsUtf8 (percent_decode w) → HasNoText information

-- the result for user information: its user and its password, or `BadCharacter` if one of them doesn't decode
-- to text
abbrev pub ReadsCredentials : List ℕ → Result CredentialSlices UrlFault → Type 0
ReadsCredentials information result = MatchResult result
    (λ parts. HoldsCredentials information parts)
    (λ fault. (fault ≡ BadCharacter) × HasNoText information)

-- an authority consists of these fields, with a host if one is needed
pub record HoldsHosted (syntax : HostSyntax) (needed : Bool) (authority : List ℕ)
    (user password host : Option (List ℕ)) (port : Option ℕ) : Type 0 where
  pub named : Authority syntax authority user password host port
  pub hosted : needed ≡ true → IsSome host

-- an authority consists of the fields that were read
abbrev pub HoldsAuthority : HostSyntax → Bool → List ℕ → AuthoritySlices → Type 0
HoldsAuthority syntax needed authority parts =
    HoldsHosted syntax needed authority (decoded_option parts.credentials.user)
    (decoded_option parts.credentials.password) (host_of parts.host) (port_of parts.host)

-- a text is not an authority, or lacks the host that is needed
abbrev pub IsNoAuthority : HostSyntax → Bool → List ℕ → Type 0
IsNoAuthority syntax needed authority =
    (user password host : Option (List ℕ)) (port : Option ℕ)
    → ¬ HoldsHosted syntax needed authority user password host port

-- the user, the password and the host are UTF-8
pub record AreTexts (parts : UrlSyntax) : Type 0 where
  pub user : IfSome parts.user IsUtf8
  pub password : IfSome parts.password IsUtf8
  pub host : IfSome parts.host IsUtf8

-- the text is another in brackets, followed by nothing or a colon
abbrev pub InBrackets : List ℕ → List ℕ → Type 0
InBrackets text inside =
    (text ≡ left_bracket ∷ (inside ++ right_bracket ∷ []))
    ⊎ (text ≡ left_bracket ∷ (inside ++ right_bracket ∷ (colon ∷ [])))

-- the text without a last c, or the text itself if it doesn't end in one
pub data DropsLast (c : ℕ) (text rest : List ℕ) : Type 0 where
  dropped : text ≡ rest ++ c ∷ [] → DropsLast c text rest
  kept : ((front : List ℕ) → ¬ (text ≡ front ++ c ∷ [])) → rest ≡ text → DropsLast c text rest

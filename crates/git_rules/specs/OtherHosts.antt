-- URLs that name another host, as their first bytes tell. The reader of a configuration needs no normal form of
-- such a URL.
use Rattle.std.specs.Prelude.{◌≡◌, ℕ, Bool, true, false, ◌||◌, ◌==◌, List, [], ◌∷◌, ◌++◌, codes, Option, Some, None}
use Rattle.std.specs.List.{list_all}
use Rattle.git_syntax.specs.Bytes.{dot, begins_with, is_scheme_text}
use Rattle.git_class.specs.WebClass.{is_plain_host_byte}
use Rattle.git_reads.specs.Credentials.{CredentialReading}
use Rattle.git_rules.specs.Normal.{NormalPlace, IsNormalOf}
use Rattle.git_rules.specs.PartialUrls.{HasText, ReadsPartly}
use Rattle.git_rules.specs.Patterns.{MatchesHost}

-- the URL names another host: neither its normal form nor its parts, if it lacks some, name this one
pub record NamesOtherHost (url host : List ℕ) : Type 0 where
  pub pattern : (n : NormalPlace) → IsNormalOf true url n → ¬ MatchesHost n.host host
  pub parts : (r : CredentialReading) → ReadsPartly url r → ¬ HasText r.host host

-- the URL is a scheme, `://`, and the rest
pub record FollowsScheme (url rest : List ℕ) : Type 0 where
  pub scheme : List ℕ
  pub scheme_text : is_scheme_text scheme ≡ true
  pub joined : url ≡ scheme ++ (codes "://" ++ rest)

-- after a common front the text goes on with a byte with which the host doesn't go on, all of bytes of plain hosts.
-- That byte isn't a `.` after the whole host
pub record DiffersPlainly (text host : List ℕ) : Type 0 where
  pub front : List ℕ
  pub byte : ℕ
  pub more : List ℕ
  pub own : List ℕ
  pub text_is : text ≡ front ++ byte ∷ more
  pub host_is : host ≡ front ++ own
  pub plain_front : list_all is_plain_host_byte front ≡ true
  pub plain_byte : is_plain_host_byte byte ≡ true
  pub other : begins_with byte own ≡ false
  pub no_end : own ≡ [] → (byte == dot) ≡ false

-- the URL names another host than a request and, if the URL of the request has a normal form, than that
abbrev pub IsElsewhere : List ℕ → List ℕ → Option NormalPlace → Type 0
IsElsewhere url host None = NamesOtherHost url host
IsElsewhere url host (Some place) = NamesOtherHost url host × NamesOtherHost url place.host
